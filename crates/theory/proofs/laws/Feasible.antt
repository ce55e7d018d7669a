-- A timetable that keeps every hard constraint, as facts of its bytes.
use mathlib.Core.Path.{◌≡◌, ap, ap₂}
use mathlib.Core.Logic.{◌↔◌}
use mathlib.Core.List.{List}
use mathlib.Core.Option.{none}
use Prim.Native.Nat.{ℕ, ◌*◌, ◌≤◌}
use lib.ListN.{length}
use Rattle.laws.specs.Lists.{All}
use Rattle.scope.specs.Parsed.{Answer, answered}
use Rattle.scope.specs.Instance.{Instance}
use Rattle.scope.specs.Score.{slots, truth, first_wrong, infeasibility_of, unless_found, infeasibility, objective}
use Rattle.scope.specs.Formula.{primary}
use Rattle.scope.specs.Operations.{score_of}
use Rattle.scope.specs.Demands.{Accepted, KeepsHard}
use Rattle.scope.specs.declared.Infeasibility.{Infeasibility}
use Rattle.scope.specs.declared.Objective.{Objective}
use Rattle.theory.proofs.laws.Answered.{answered-value, unless_found-answers, of_bytes-answers}

pub record Feasible (i : Instance) (t : List ℕ) : Type 0 where
  pub size : length t ≡ primary i
  pub bytes : All (λ b. b ≤ 1) t
  pub right : first_wrong i (truth i t) 1 i.events ≡ none
  pub feasible : infeasibility_of i (truth i t) i.constraints ≡ 0

-- scoring answers an infeasibility of 0 exactly at such timetables, with their objective
pub keeps-hard : (file : List ℕ) (i : Instance) → Accepted file i → (t : List ℕ) (cost : Objective)
    → KeepsHard file t cost ↔ (Feasible i t × (objective i t ≡ cost))
unfolding score_of
keeps-hard file i a t cost =
    let wrong = first_wrong i (truth i t) 1 i.events in
    let said : Answer (Infeasibility × Objective) = answered (infeasibility i t, objective i t) in
    let b = of_bytes-answers (2 * slots i) t (unless_found 12 wrong said) in
    let u = unless_found-answers 12 wrong said in
    rw a.parsed (
      λ e.
          let p = b.0 e in
          let q = u.0 p.2 in
          let r = answered-value q.1 in
          (record { size = p.0; bytes = p.1; right = q.0; feasible = ap (λ x. x.0.0) r }, ap (λ x. x.1) r),
      λ h.
          b.1
          (h.0.size, h.0.bytes, u.1 (h.0.right, ap₂ (λ n o. answered (record { 0 = n }, o)) h.0.feasible h.1)),
    )
