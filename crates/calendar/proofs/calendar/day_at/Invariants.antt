-- `calendar::calendar::day_at` meets its contract. The loop's invariant: the day has as many periods as were read, and those still
-- to be read.
use Rattle.std.proofs.Common.{◌≡◌, ◌-◌, ◌≤◌}
use Rattle.scope.specs.Calendar.{periods_at, day_at}
use Rattle.calendar.specs.Answers.{counted_on, counted}
use Rattle.calendar.proofs.calendar.day_at.Given as goal

abbrev pub invariant-loop-i : goal.invariant-loop-i
invariant-loop-i l = (l.count ≤ 24) × (counted (day_at l.s l.at) ≡ counted_on l.i (periods_at (l.count - l.i) l.before l.s l.next))
