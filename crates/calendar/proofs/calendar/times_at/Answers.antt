-- `calendar::calendar::times_at` meets its contract: by the number in place of T.
use Rattle.std.proofs.Common.{sym, ◌∙◌}
use Rattle.number.proofs.laws.Sequence.{handed-on}
use Rattle.calendar.proofs.laws.Counting.{times_stopped, times-given, times_dated}
use Rattle.calendar.proofs.calendar.times_at.Goals as goal

pub returns-in_err-times : goal.returns-in_err-times
returns-in_err-times c = rw (handed-on _ _ c.from_residual.ensures) (sym (times_stopped _ (sym c.in_err-times.ensures)))

pub returns-then-times-eq0 : goal.returns-then-times-eq0
returns-then-times-eq0 c = c.calendar_at.ensures ∙ sym (times_dated _ (sym c.in_ok-times.ensures) c.if-times-eq0.true)

pub returns : goal.returns
returns c = sym (times-given _ (sym c.in_ok-times.ensures) c.if-times-eq0.false)
