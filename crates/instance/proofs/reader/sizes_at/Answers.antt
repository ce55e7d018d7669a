-- `instance::reader::sizes_at` meets its contract: the times and two numbers within limits, a step of the sequence each.
use Rattle.number.proofs.laws.Sequence.{sequence, handed-on}
use Rattle.instance.specs.File.{sizes_in}
use Rattle.instance.proofs.reader.sizes_at.Goals as goal

pub returns-in_err-times : goal.returns-in_err-times
unfolding sizes_in
returns-in_err-times c = rw (handed-on _ _ c.from_residual.ensures) (search (sequence, c.in_err-times.ensures))

pub returns-in_err-events : goal.returns-in_err-events
unfolding sizes_in
returns-in_err-events c = rw (handed-on _ _ c.from_residual-in_err-events.ensures) (search (sequence, c.in_ok-times.ensures, c.in_err-events.ensures) depth 12)

pub returns-in_err-resources : goal.returns-in_err-resources
unfolding sizes_in
returns-in_err-resources c = rw (handed-on _ _ c.from_residual-in_err-resources.ensures) (search (sequence, c.in_ok-times.ensures, c.in_ok-events.ensures, c.in_err-resources.ensures) depth 12)

pub returns : goal.returns
unfolding sizes_in
returns c = search (sequence, c.in_ok-times.ensures, c.in_ok-events.ensures, c.in_ok-resources.ensures) depth 12
