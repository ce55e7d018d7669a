-- `windows::window::window_at` meets its contract: three numbers, a step of the sequence each.
use Rattle.number.proofs.laws.Sequence.{sequence, said-on}
use Rattle.windows.specs.Window.{window_fields}
use Rattle.windows.proofs.window.window_at.Goals as goal

pub returns-in_err-day : goal.returns-in_err-day
unfolding window_fields
returns-in_err-day c = said-on _ _ _ c.from_residual.ensures (search (sequence, c.in_err-day.ensures))

pub returns-in_err-from : goal.returns-in_err-from
unfolding window_fields
returns-in_err-from c = said-on _ _ _ c.from_residual-in_err-from.ensures (search (sequence, c.in_ok-day.ensures, c.in_err-from.ensures) depth 14)

pub returns-in_err-to : goal.returns-in_err-to
unfolding window_fields
returns-in_err-to c = said-on _ _ _ c.from_residual-in_err-to.ensures (search (sequence, c.in_ok-day.ensures, c.in_ok-from.ensures, c.in_err-to.ensures) depth 14)

pub returns : goal.returns
unfolding window_fields
returns c = search (sequence, c.in_ok-day.ensures, c.in_ok-from.ensures, c.in_ok-to.ensures) depth 14
