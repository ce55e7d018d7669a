-- `table_lists::event_at` meets its contract: a duration, then a row, a step of the sequence each.
use Rattle.scope.specs.Instance.{event_at}
use Rattle.number.proofs.laws.Sequence.{sequence, handed-on}
use Rattle.table_lists.proofs.event_at.Goals as goal

pub returns-in_err-duration : goal.returns-in_err-duration
unfolding event_at
returns-in_err-duration c = rw (handed-on _ _ c.from_residual.ensures) (search (sequence, c.in_err-duration.ensures))

pub returns-in_err-end : goal.returns-in_err-end
unfolding event_at
returns-in_err-end c = rw (handed-on _ _ c.from_residual-in_err-end.ensures) (search (sequence, c.in_ok-duration.ensures, c.in_err-end.ensures) depth 12)

pub returns : goal.returns
unfolding event_at
returns c = search (sequence, c.in_ok-duration.ensures, c.in_ok-end.ensures) depth 12
