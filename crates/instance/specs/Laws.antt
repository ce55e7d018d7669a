-- What an accepted file is known to keep: its sizes, its tables, the walk over its constraints, each of them valid.
use Rattle.std.specs.Prelude.{ℕ, ◌≤◌, ◌≡◌, List, length}
use Rattle.scope.specs.Parsed.{got}
use Rattle.scope.specs.Kinds.{Constraint}
use Rattle.scope.specs.Instance.{Counts, parse}
use Rattle.parsing.specs.Each.{Each}
use Rattle.parsing.specs.Numbers.{Ascending}
use Rattle.tables.specs.Rows.{rows, events_of}
use Rattle.tables.specs.Reading.{EventIn}
use Rattle.tables.specs.Room.{group_room}
use Rattle.constraint.specs.declared.kinds.Head.{Head}
use Rattle.constraint.specs.Answers.{counts_in}
use Rattle.constraint.specs.Bounds.{low_of, high_of}
use Rattle.constraint.specs.Decoded.{longest_of}
use Rattle.constraint.specs.Valid.{InRange}
use Rattle.constraint.specs.Walk.{Walk, constraints_in}
use Rattle.instance.specs.Answers.{head_start, instance_of}
use Rattle.instance.specs.File.{Start}
use Rattle.instance.specs.Start.{SizesIn}

-- a constraint of an instance: its weight and fields within their limits, its counted lists at most 255 long,
-- lo no more than hi and than the longest list
pub record ConstraintOf (n : Counts) (t : Start) (c : Constraint) : Type 0 where
  pub weight : c.weight ≤ 1000
  pub fields : InRange n c.kind
  pub short : longest_of t.times t.events t.groups c.kind ≤ 255
  pub ordered : low_of c.kind ≤ high_of c.kind
  pub reached : low_of c.kind ≤ longest_of t.times t.events t.groups c.kind

-- an accepted file, with the tables that it was read into
pub record Accepted (s d te tg : List ℕ) (h : Head) : Type 0 where
  pub parsed : parse s ≡ got (instance_of s d te tg h) (length s)
  pub sizes : SizesIn h.times h.events h.resources
  pub groups_high : h.groups ≤ group_room s
  pub constraints_high : h.constraints ≤ 4096
  pub events : Each (EventIn h.times h.resources) (events_of d te h.events)
  pub groups : Each (Ascending h.times 0) (rows tg h.groups)
  pub constraints : (instance_of s d te tg h).constraints ≡ constraints_in h s
  pub count : length (constraints_in h s) ≡ h.constraints
  pub walk : Walk (counts_in h) s h.constraints 0 h.start (constraints_in h s)
  pub valid : Each (ConstraintOf (counts_in h) (head_start d te tg h)) (constraints_in h s)
