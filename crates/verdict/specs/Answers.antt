-- What the verdict on lent bytes says of the operations' answers.
use Rattle.std.specs.Prelude.{ℕ, ◌≡◌, List, Result}
use Rattle.scope.specs.Parsed.{answered}
use Rattle.scope.specs.Instance.{Instance}
use Rattle.scope.specs.Score.{of_timetable}
use Rattle.scope.specs.Answers.{means}
use Rattle.scope.specs.declared.refusal.Refusal.{Refusal}
use Rattle.constraint.specs.declared.kinds.Head.{Head}
use Rattle.timetable.specs.Right.{Lasts}

-- what is said of bytes for an instance of these sizes and durations
pub record VerdictOf (b d : List ℕ) (h : Head) (v : Result (Unit {0}) Refusal) : Type 0 where
  pub says : (i : Instance) → Lasts i h.times h.events d → means v ≡ of_timetable i b (answered tt)
