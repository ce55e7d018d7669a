-- `calendar::period::period_at` meets its contract: two numbers and two tests, one step of the sequence each.
use Rattle.scope.specs.Calendar.{period_at}
use Rattle.number.proofs.laws.Sequence.{sequence, handed-on}
use Rattle.calendar.proofs.period.period_at.Goals as goal

pub returns-in_err-start : goal.returns-in_err-start
unfolding period_at
returns-in_err-start c = rw (handed-on _ _ c.from_residual.ensures) (search (sequence, c.in_err-start.ensures))

pub returns-in_err-end : goal.returns-in_err-end
unfolding period_at
returns-in_err-end c = rw (handed-on _ _ c.from_residual-in_err-end.ensures) (search (sequence, c.in_ok-start.ensures, c.in_err-end.ensures) depth 12)

pub returns-then-end-start : goal.returns-then-end-start
unfolding period_at
returns-then-end-start c = search (sequence, c.in_ok-start.ensures, c.in_ok-end.ensures) depth 12

pub returns-then-start-before : goal.returns-then-start-before
unfolding period_at
returns-then-start-before c = search (sequence, c.in_ok-start.ensures, c.in_ok-end.ensures) depth 12

pub returns : goal.returns
unfolding period_at
returns c = search (sequence, c.in_ok-start.ensures, c.in_ok-end.ensures) depth 12
