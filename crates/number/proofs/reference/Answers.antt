-- `number::reference` meets its contract: a number, then the tests of `reference`, one step of the sequence each.
use Rattle.scope.specs.Number.{reference}
use Rattle.number.proofs.laws.Sequence.{sequence}
use Rattle.number.proofs.reference.Goals as goal

pub returns-in-Err : goal.returns-in-Err
unfolding reference
returns-in-Err c = search (sequence, c.in-Err.ensures)

pub returns-then-v-before : goal.returns-then-v-before
unfolding reference
returns-then-v-before c = search (sequence, c.in-Ok.ensures) depth 12

pub returns-then-n-v : goal.returns-then-n-v
unfolding reference
returns-then-n-v c = search (sequence, c.in-Ok.ensures) depth 12

pub returns : goal.returns
unfolding reference
returns c = search (sequence, c.in-Ok.ensures) depth 12
