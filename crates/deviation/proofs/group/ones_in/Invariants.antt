-- `deviation::group::ones_in` meets its contract. The count so far and the count of the members left are the whole.
use Prim.Native.Nat.{◌+◌, ◌≤◌}
use mathlib.Core.Path.{◌≡◌}
use lib.ListN.{drop}
use Rattle.scope.specs.Score.{trues}
use Rattle.tables.specs.Rows.{row_at}
use Rattle.timetable.specs.Bits.{marks}
use Rattle.deviation.proofs.group.ones_in.Given as goal

abbrev pub invariant-loop-k : goal.invariant-loop-k
invariant-loop-k l = (l.count ≤ l.k) × (l.count + trues (marks l.bytes l.base (drop l.k (row_at l.groups l.g))) ≡ trues (marks l.bytes l.base (row_at l.groups l.g)))
