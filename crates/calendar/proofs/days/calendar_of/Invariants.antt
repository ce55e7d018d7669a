-- `calendar::days::calendar_of` meets its contract. The loop's invariant: the days that were read stand in the array.
use Rattle.std.proofs.Common.{◌*◌, ◌≤◌}
use Rattle.calendar.proofs.laws.Rows.{DaysFilled}
use Rattle.calendar.proofs.days.calendar_of.Given as goal

abbrev pub invariant-loop-d : goal.invariant-loop-d
invariant-loop-d l = (l.time ≤ l.d * 24) × DaysFilled l.s l.at l.d l.days l.time l.next
