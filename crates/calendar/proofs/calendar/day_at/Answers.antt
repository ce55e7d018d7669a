use Rattle.std.proofs.Common.{sym, ◌∙◌, arith}
use Rattle.number.proofs.laws.Sequence.{handed-on}
use Rattle.parsing.proofs.laws.Calendar.{limited_in-got}
use Rattle.calendar.proofs.laws.Counting.{day-counted, day-uncounted, counted_more, counted_refused, counted_end}
use Rattle.calendar.proofs.calendar.day_at.Goals as goal

pub returns-in_err-count : goal.returns-in_err-count
returns-in_err-count c = rw (handed-on _ _ c.from_residual.ensures) (sym (day-uncounted _ _ (sym c.in_err-count.ensures)))

pub loop-i-init : goal.loop-i-init
loop-i-init c = let e = sym c.in_ok-count.ensures in
    ((limited_in-got _ _ _ _ _ e).high, day-counted _ _ e)

pub returns-in_err-end : goal.returns-in_err-end
returns-in_err-end c = rw (handed-on _ _ c.from_residual-in_err-end.ensures)
    (sym (c.loop-i.invariant.1 ∙ counted_refused _ _ _ _ _ c.loop-i-test.true (sym c.in_err-end.ensures)))

pub loop-i-preserved : goal.loop-i-preserved
loop-i-preserved c = let l = c.loop-i in
    (l.invariant.0, l.invariant.1 ∙ counted_more _ _ _ _ _ c.loop-i-test.true (sym c.in_ok-end.ensures))

pub returns : goal.returns
returns c = let l = c.loop-i in sym (l.invariant.1 ∙ counted_end _ _ _ _ _ (omega arith) c.loop-i-test.false)
