-- `deviation::idle::idle_in` meets its contract. What is kept so far, walked over the members left, comes to what is kept after the group.
use Prim.Native.Nat.{◌+◌, ◌≤◌}
use mathlib.Core.Path.{◌≡◌}
use mathlib.Core.List.{foldl}
use lib.ListN.{drop}
use Rattle.scope.specs.Idle.{idle_step, kept_after}
use Rattle.tables.specs.Rows.{row_at}
use Rattle.timetable.specs.Bits.{marks}
use Rattle.deviation.proofs.idle.idle_in.Given as goal

abbrev pub invariant-loop-k : goal.invariant-loop-k
invariant-loop-k l = (l.kept.idle + l.kept.since ≤ l.k) × (foldl idle_step l.kept (marks l.bytes l.base (drop l.k (row_at l.groups l.g))) ≡ kept_after (marks l.bytes l.base (row_at l.groups l.g)))
