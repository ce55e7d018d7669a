use Rattle.std.proofs.Common.{sym, ◌∙◌, arith}
use Rattle.number.proofs.laws.Sequence.{handed-on}
use Rattle.parsing.proofs.laws.Calendar.{day-got}
use Rattle.calendar.proofs.laws.Counting.{day_value, day_refused, totalled_more, totalled_refused, totalled-end, calendar_stopped, calendar_none, calendar_many, calendar_right}
use Rattle.calendar.proofs.calendar.calendar_at.Goals as goal

pub returns-in_err-count : goal.returns-in_err-count
returns-in_err-count c = let e = day_refused _ _ c.in_err-count.ensures in
    rw (handed-on _ _ c.from_residual.ensures) (sym (calendar_stopped _ _ (c.loop-day.invariant.1 ∙ totalled_refused _ _ _ _ c.loop-day-test.true e)))

pub overflow_add-total : goal.overflow_add-total
overflow_add-total c = let y = day_value _ _ c.in_ok-count.ensures in
    let k = (day-got _ _ y.read).count in
    omega (arith, y.count, c.loop-day.invariant.0)

pub loop-day-preserved : goal.loop-day-preserved
loop-day-preserved c = let y = day_value _ _ c.in_ok-count.ensures in
    let k = (day-got _ _ y.read).count in
    (omega (arith, y.count), c.loop-day.invariant.1 ∙ totalled_more _ _ _ _ c.loop-day-test.true y)

pub returns-then-total-lt1 : goal.returns-then-total-lt1
returns-then-total-lt1 c = sym (calendar_none _ _ (c.loop-day.invariant.1 ∙ totalled-end _ _ _ _ c.loop-day-test.false) c.if-total-lt1.true)

pub returns-then-total-gt125 : goal.returns-then-total-gt125
returns-then-total-gt125 c = sym (calendar_many _ _ (c.loop-day.invariant.1 ∙ totalled-end _ _ _ _ c.loop-day-test.false) c.if-total-lt1.false c.if-total-gt125.true)

pub returns : goal.returns
returns c = sym (calendar_right _ _ (c.loop-day.invariant.1 ∙ totalled-end _ _ _ _ c.loop-day-test.false) c.if-total-lt1.false c.if-total-gt125.false)
