-- What is known of events and groups that were read, and so of the tables' rows that hold them.
use Rattle.std.specs.Prelude.{ℕ, ◌≤◌}
use Rattle.scope.specs.Kinds.{Event}
use Rattle.parsing.specs.Numbers.{Ascending}

-- an event of an instance with T times and R resources
pub record EventIn (T R : ℕ) (v : Event) : Type 0 where
  pub low : 1 ≤ v.duration
  pub high : v.duration ≤ T
  pub ascending : Ascending R 0 v.resources
