-- `calendar::calendar::calendar_at` meets its contract. The loop's invariant: the days have as many periods as were counted, and
-- those of the days still to be read.
use Rattle.std.proofs.Common.{◌≡◌, ◌-◌, ◌*◌, ◌≤◌}
use Rattle.scope.specs.Parsed.{repeat}
use Rattle.scope.specs.Calendar.{day_at}
use Rattle.calendar.specs.Answers.{totalled_on, totalled}
use Rattle.calendar.proofs.calendar.calendar_at.Given as goal

abbrev pub invariant-loop-day : goal.invariant-loop-day
invariant-loop-day l = (l.total ≤ l._day * 24) × (totalled (repeat 7 (day_at l.s) l.at) ≡ totalled_on l.total (repeat (7 - l._day) (day_at l.s) l.next))
