-- `timetable::check::starts_right` meets its contract. The starts before time i + 1 are right, and what is left decides.
use Prim.Native.Nat.{◌+◌, ◌-◌}
use mathlib.Core.Path.{◌≡◌}
use mathlib.Core.List.{map}
use Rattle.scope.specs.Kinds.{from, up_to}
use Rattle.scope.specs.Score.{all}
use Rattle.timetable.specs.Right.{start_at, before_at}
use Rattle.timetable.proofs.check.starts_right.Given as goal

abbrev pub invariant-loop-i : goal.invariant-loop-i
invariant-loop-i l = (l.before ≡ before_at l.bytes l.y (l.i + 1)) × (all (map (start_at l.bytes l.cells l.y) (from (l.i + 1) (l.n - l.i))) ≡ all (map (start_at l.bytes l.cells l.y) (up_to l.n)))
