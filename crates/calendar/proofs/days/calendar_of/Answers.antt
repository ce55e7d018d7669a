use Rattle.std.proofs.Common.{arith}
use Rattle.parsing.proofs.laws.Calendar.{day-got}
use Rattle.calendar.proofs.laws.Counting.{day_value, day_refused}
use Rattle.calendar.proofs.laws.Rows.{days_start, days_more, days_stopped, days_done}
use Rattle.calendar.proofs.days.calendar_of.Goals as goal

pub loop-d-init : goal.loop-d-init
loop-d-init c = (omega arith, days_start _ _)

pub returns-in_default : goal.returns-in_default
returns-in_default c = days_stopped _ _ c.loop-d.invariant.1 c.loop-d-test.true (day_refused _ _ c.in_default.ensures)

pub day_of-day-requires : goal.day_of-day-requires
day_of-day-requires c = omega (arith, c.loop-d.invariant.0)

pub overflow_add-time : goal.overflow_add-time
overflow_add-time c = let y = day_value _ _ c.in-Ok.ensures in
    let k = (day-got _ _ y.read).count in
    omega (arith, y.count, c.loop-d.invariant.0)

pub loop-d-preserved : goal.loop-d-preserved
loop-d-preserved c = let l = c.loop-d in
    let y = day_value _ _ c.in-Ok.ensures in
    let k = (day-got _ _ y.read).count in
    (omega (arith, y.count, l.invariant.0), rw c.day_of-day.ensures (days_more _ _ l.invariant.1 c.loop-d-test.true y))

pub returns : goal.returns
returns c = days_done _ _ c.loop-d.invariant.1 c.loop-d-test.false
