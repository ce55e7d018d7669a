-- The fields of a kind are those of its row in the definitions' table.
use Prim.Native.Nat.{ℕ, zero, suc, ◌≤◌}
use mathlib.Core.Path.{◌≡◌, refl}
use native.Mathlib.Omega.{arith}
use Rattle.scope.specs.Instance.{Counts, fields_table, fields_of}
use Rattle.fields.specs.Made.{kind_from}
use Rattle.fields.specs.Flat.{left, row_of}
use Rattle.fields.specs.Table.{first_of, second_of, third_of, fourth_of, things_of, field_at, count_of, fields_from}
use Rattle.fields.proofs.laws.Table.{totals_of}

pub row-right : (n : Counts) (k : ℕ) → 1 ≤ k → k ≤ 11 → fields_of n k ≡ row_of (totals_of n) k
unfolding fields_table left fields_from field_at first_of second_of third_of fourth_of things_of count_of kind_from
row-right n (suc zero) a b = refl
row-right n (suc (suc zero)) a b = refl
row-right n (suc (suc (suc zero))) a b = refl
row-right n (suc (suc (suc (suc zero)))) a b = refl
row-right n (suc (suc (suc (suc (suc zero))))) a b = refl
row-right n (suc (suc (suc (suc (suc (suc zero)))))) a b = refl
row-right n (suc (suc (suc (suc (suc (suc (suc zero))))))) a b = refl
row-right n (suc (suc (suc (suc (suc (suc (suc (suc zero)))))))) a b = refl
row-right n (suc (suc (suc (suc (suc (suc (suc (suc (suc zero))))))))) a b = refl
row-right n (suc (suc (suc (suc (suc (suc (suc (suc (suc (suc zero)))))))))) a b = refl
row-right n (suc (suc (suc (suc (suc (suc (suc (suc (suc (suc (suc zero))))))))))) a b = refl
row-right n (suc (suc (suc (suc (suc (suc (suc (suc (suc (suc (suc (suc k)))))))))))) a b = let f : ⊥ = omega arith in absurd f
row-right n zero a b = let f : ⊥ = omega arith in absurd f
