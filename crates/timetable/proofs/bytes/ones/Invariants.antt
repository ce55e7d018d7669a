-- `timetable::bytes::ones` meets its contract. The count so far and the count of what is left are the whole.
use Prim.Native.Nat.{◌+◌, ◌≤◌, ◌-◌}
use mathlib.Core.Path.{◌≡◌}
use Rattle.scope.specs.Kinds.{from, up_to}
use Rattle.scope.specs.Score.{trues}
use Rattle.resource_uses.specs.Bits.{marks}
use Rattle.timetable.proofs.bytes.ones.Given as goal

abbrev pub invariant-loop-i : goal.invariant-loop-i
invariant-loop-i l = (l.count ≤ l.i) × (l.count + trues (marks l.bytes l.base (from (l.i + 1) (l.n - l.i))) ≡ trues (marks l.bytes l.base (up_to l.n)))
