-- `timetable::bytes::first_above` meets its contract. Where no byte is above 1 there is none to find; else the bytes before i are passed.
use mathlib.Core.Path.{◌≡◌}
use lib.ListN.{drop}
use Rattle.scope.specs.Score.{first_above}
use Rattle.timetable.proofs.bytes.first_above.Given as goal

abbrev pub invariant-loop-i : goal.invariant-loop-i
invariant-loop-i l = first_above 0 l.bytes ≡ first_above l.i (drop l.i l.bytes)
