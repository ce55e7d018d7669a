-- `timetable::check::first_wrong` meets its contract. The events before e are right, and the first wrong one of what is left is the first of all.
use Prim.Native.Nat.{◌-◌}
use mathlib.Core.Path.{◌≡◌}
use Rattle.timetable.specs.Right.{wrong_from}
use Rattle.timetable.proofs.check.first_wrong.Given as goal

abbrev pub invariant-loop-e : goal.invariant-loop-e
invariant-loop-e l = wrong_from l.bytes l.durations l.cells l.times 0 l.events ≡ wrong_from l.bytes l.durations l.cells l.times l.e (l.events - l.e)
