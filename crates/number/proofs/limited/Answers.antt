-- `number::limited` meets its contract: a number, then the tests of `limited`, one step of the sequence each.
use Rattle.scope.specs.Number.{limited}
use Rattle.number.proofs.laws.Sequence.{sequence}
use Rattle.number.proofs.limited.Goals as goal

pub returns-in-Err : goal.returns-in-Err
unfolding limited
returns-in-Err c = search (sequence, c.in-Err.ensures)

pub returns-then-v-lo : goal.returns-then-v-lo
unfolding limited
returns-then-v-lo c = search (sequence, c.in-Ok.ensures) depth 12

pub returns-then-hi-v : goal.returns-then-hi-v
unfolding limited
returns-then-hi-v c = search (sequence, c.in-Ok.ensures) depth 12

pub returns : goal.returns
unfolding limited
returns c = search (sequence, c.in-Ok.ensures) depth 12
