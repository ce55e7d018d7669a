-- A timetable that keeps every hard constraint at a cost within the bound gives a model of the hard clauses with the tail.
-- So where these have no model, every such timetable costs more.
use mathlib.Core.Path.{◌≡◌, refl, ap, ◌∙◌}
use mathlib.Core.Bool.{true}
use mathlib.Core.List.{List, ◌++◌}
use Prim.Native.Nat.{ℕ, ◌+◌, ◌≤◌, ◌<◌}
use native.Mathlib.Nat.{lt_of_not-le}
use native.Mathlib.Omega.{arith}
use Rattle.scope.specs.Instance.{Instance}
use Rattle.scope.specs.Cnf.{bit, clauses, gates}
use Rattle.theory.proofs.laws.Outputs.{outputs}
use Rattle.scope.specs.Score.{truth, objective_of}
use Rattle.scope.specs.Formula.{primary, formula, variables, soft_of, negated, tail, bounded, bounded_hard}
use Rattle.scope.specs.Demands.{Accepted, KeepsHard}
use Rattle.scope.specs.declared.Objective.{Objective}
use Rattle.theory.specs.Accepted.{ValidInstance}
use Rattle.theory.proofs.laws.Accepted.{accepted-valid}
use Rattle.theory.proofs.laws.Circuit.{Holds-append, Keeps-append, hard-clauses}
use Rattle.theory.proofs.laws.Order.{Ordered, Ordered-append}
use Rattle.theory.proofs.laws.Extension.{extended, extended-holds}
use Rattle.theory.proofs.laws.FormulaOrder.{formula_order}
use Rattle.theory.proofs.laws.FormulaScore.{formula_score}
use Rattle.theory.proofs.laws.Feasible.{Feasible, keeps-hard}
use Rattle.theory.proofs.laws.Tail.{total-negated, tail-keeps, tail-order, soft-literals}

module _ (i : Instance) (v : ValidInstance i) (B : ℕ) where
  tail_start : primary i + 1 + gates (formula i) ≡ variables i + 1
  unfolding variables
  tail_start = omega arith

  -- the formula with its tail reads earlier variables only
  pub bounded_order : Ordered (primary i + 1) (bounded i B)
  unfolding bounded soft_of
  bounded_order =
      let o = formula_order i v in
      let us = negated (soft_of i) in
      let l = rw tail_start at (soft-literals (primary i + 1) (formula i) o) in
      Ordered-append (primary i + 1) (formula i) (tail B us (variables i + 1)) o
      (rw tail_start (tail-order B us (variables i + 1) (omega arith) l))

  feasible_model : (t : List ℕ) → Feasible i t → objective_of i (truth i t) i.constraints ≤ B
      → clauses (bit (extended (bounded i B) t)) (bounded_hard i B) ≡ true
  unfolding bounded_hard bounded soft_of bit
  feasible_model t k c =
      let n = primary i + 1 in
      let F = formula i in
      let us = negated (soft_of i) in
      let L = tail B us (variables i + 1) in
      let m = extended (F ++ L) t in
      let h = extended-holds (F ++ L) t n (omega (arith, k.size)) bounded_order in
      let p = Holds-append (bit m) n F L h in
      let s = formula_score i v t (outputs (F ++ L) t) k.size p.0 in
      let e = total-negated (bit m) (soft_of i) ∙ s.costs in
      let b = tail-keeps (bit m) refl B us (variables i + 1) (rw tail_start at p.1) in
      (hard-clauses (bit m) refl n (F ++ L)).1
      (h, (Keeps-append (bit m) F L).1 (s.keeps.1 (k.right, k.feasible), b.1 (omega (arith, e))))

-- the model of a timetable whose cost is within the bound
pub bounded-model : (file : List ℕ) (i : Instance) → Accepted file i → (B : ℕ) (t : List ℕ) (cost : Objective)
    → KeepsHard file t cost → cost.0 ≤ B → (m : List ℕ) × (clauses (bit m) (bounded_hard i B) ≡ true)
bounded-model file i a B t cost k l =
    let f = (keeps-hard file i a t cost).0 k in
    (extended (bounded i B) t, feasible_model i (accepted-valid file i a) B t f.0 (omega (arith, ap (λ o. o.0) f.1)))

-- no model of the hard clauses with the tail: every timetable that keeps every hard constraint costs more than the bound
pub refuted-bound : (file : List ℕ) (i : Instance) → Accepted file i → (B : ℕ)
    → ((m : List ℕ) → clauses (bit m) (bounded_hard i B) ≡ true → ⊥) → (t : List ℕ) (cost : Objective) → KeepsHard file t cost
    → B < cost.0
refuted-bound file i a B no-model t cost k =
    lt_of_not-le (λ l. let m = bounded-model file i a B t cost k l in no-model m.0 m.1)
