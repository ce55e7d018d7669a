-- `calendar::days::day_of` meets its contract. The loop's invariant: the periods that were read stand in the row.
use Rattle.std.proofs.Common.{◌≤◌}
use Rattle.calendar.proofs.laws.Rows.{DayFilled}
use Rattle.calendar.proofs.days.day_of.Given as goal

abbrev pub invariant-loop-i : goal.invariant-loop-i
invariant-loop-i l = (l.count ≤ 24) × DayFilled l.s l.at l.time l.count l.i l.day l.before l.next
