use Rattle.std.proofs.Common.{sym}
use Rattle.parsing.proofs.laws.Calendar.{limited_in-got}
use Rattle.calendar.proofs.laws.Rows.{day_start, day_none, day_more, day_stopped, day_done}
use Rattle.calendar.proofs.days.day_of.Goals as goal

pub returns-in_default : goal.returns-in_default
returns-in_default c = day_none _ _ _ (sym c.in_default.ensures)

pub loop-i-init : goal.loop-i-init
loop-i-init c = let e = sym c.in-Ok.ensures in
    ((limited_in-got _ _ _ _ _ e).high, day_start _ _ _ e)

pub returns-in_default-period_at : goal.returns-in_default-period_at
returns-in_default-period_at c = day_stopped _ _ _ c.loop-i.invariant.1 c.loop-i-test.true (sym c.in_default-period_at.ensures)

pub loop-i-preserved : goal.loop-i-preserved
loop-i-preserved c = let l = c.loop-i in
    (l.invariant.0, day_more _ _ _ l.invariant.1 c.loop-i-test.true l.invariant.0 (sym c.in-Ok-period_at.ensures))

pub returns : goal.returns
returns c = day_done _ _ _ c.loop-i.invariant.1 c.loop-i-test.false
