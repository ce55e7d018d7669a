-- What timetable_check_hard says of timetables.
use Prim.Native.Nat.{ℕ}
use mathlib.Core.Path.{ap}
use mathlib.Core.Logic.{◌↔◌}
use mathlib.Core.List.{List}
use Rattle.scope.specs.Parsed.{Answer}
use Rattle.scope.specs.Instance.{Instance}
use Rattle.scope.specs.Refutation.{NoneAtAll}
use Rattle.scope.specs.Demands.{Accepted, KeepsHard}
use Rattle.scope.specs.declared.Objective.{Objective}
use Rattle.theory.proofs.laws.Demands.{demand_hard}
use Rattle.operation_calls.specs.Operations.{Stores, lent_by, steps_call}
use Rattle.demands.proofs.laws.Beyond.{RefutedHard, hard_read, hard_answers}

module _ (file proof : List ℕ) (s : Stores) where
  -- then no timetable keeps every hard constraint, whatever it costs
  pub none_at_all : {n : ℕ} → RefutedHard file proof s n → (t : List ℕ) (cost : Objective) → KeepsHard file t cost → ⊥
  none_at_all r =
      let a = hard_read file proof s (hard_answers file proof s r) in
      demand_hard.never file a.instance proof (lent_by s) _ a.accepted (hard_answers file proof s r)

  -- and it returns 0 exactly when the proof refutes the hard clauses
  pub hard_exactly : (i : Instance) → Accepted file i → (n : ℕ) → RefutedHard file proof s n ↔ NoneAtAll i proof (lent_by s) n
  hard_exactly i a n =
      let d = demand_hard.exactly file i proof (lent_by s) n a in (
        λ r. d.0 (hard_answers file proof s r),
        λ k.
            let e = d.1 k in
            record {
              number = ap (λ (x : Answer ℕ). (steps_call x s).number) e;
              value = ap (λ (x : Answer ℕ). (steps_call x s).value) e;
            },
      )
