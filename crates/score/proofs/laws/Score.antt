-- The sums over the constraints are infeasibility and objective by the definitions.
use Prim.Native.Nat.{ℕ, ◌+◌, ◌*◌}
use mathlib.Core.Path.{◌≡◌, refl, ap, ap₂}
use mathlib.Core.Bool.{Bool, cond}
use mathlib.Core.List.{List}
use lib.Dec.{eqb}
use Rattle.scope.specs.Parsed.{got, repeat}
use Rattle.scope.specs.Kinds.{Kind, Constraint, Atom, duration_of, users, group_at, rules_of}
use Rattle.scope.specs.Instance.{Instance, Counts}
use Rattle.scope.specs.Score.{deviations, infeasibility_of, objective_of}
use Rattle.parsing.specs.Each.{Each, each_none, each_more}
use Rattle.parsing.proofs.laws.Each.{repeat-each}
use Rattle.constraint.specs.Decoded.{decoded_at}
use Rattle.constraint.specs.Valid.{InRange}
use Rattle.constraint.proofs.laws.Valid.{decoded-got}
use Rattle.score.specs.Amounts.{hard_sum, soft_sum}

-- what is charged for a kind whose fields are in range is its deviation
module _ (i : Instance) (τ : Atom → Bool) (n : Counts) (f : Kind → ℕ)
    (right : (k : Kind) → InRange n k → f k ≡ deviations τ (rules_of i.times (duration_of i.events) (λ r. users r i.events) (group_at i.groups) k)) where
  pub hard_right : {cs : List Constraint} → Each (λ c. InRange n c.kind) cs → hard_sum f cs ≡ infeasibility_of i τ cs
  unfolding hard_sum infeasibility_of
  hard_right each_none = refl
  hard_right (each_more {x = c} v e) =
      ap₂ ◌+◌ (ap (λ d. cond (eqb c.weight 0) d 0) (right c.kind v)) (hard_right e)

  pub soft_right : {cs : List Constraint} → Each (λ c. InRange n c.kind) cs → soft_sum f cs ≡ objective_of i τ cs
  unfolding soft_sum objective_of
  soft_right each_none = refl
  soft_right (each_more {x = c} v e) = ap₂ ◌+◌ (ap (λ d. c.weight * d) (right c.kind v)) (soft_right e)

-- the fields of constraints that were decoded are in range
pub decoded-in-range : (n : Counts) (s : List ℕ) (count at : ℕ) {cs : List Constraint} {end : ℕ}
    → repeat count (decoded_at n s) at ≡ got cs end → Each (λ c. InRange n c.kind) cs
decoded-in-range n s count at e =
    repeat-each (λ c. InRange n c.kind) count (decoded_at n s) at (λ at c next g. (decoded-got n s at g).fields) e
