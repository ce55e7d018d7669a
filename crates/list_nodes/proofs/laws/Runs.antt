-- Numbers that follow one another, and literals of such variables: how many there are.
use Prim.Native.Nat.{ℕ, zero, suc, ◌+◌}
use mathlib.Core.Path.{◌≡◌, refl, ap}
use lib.ListN.{length}
use Rattle.scope.specs.Kinds.{from}
use Rattle.literals.specs.Outputs.{every}

pub length_from_lem : (n k : ℕ) → length (from n k) ≡ k
unfolding from
length_from_lem n zero = refl
length_from_lem n (suc k) = ap suc (length_from_lem (suc n) k)

pub length-every : (step v n : ℕ) → length (every step v n) ≡ n
unfolding every
length-every step v zero = refl
length-every step v (suc n) = ap suc (length-every step (v + step) n)
