-- `calendar::period::limited_in` meets its contract: a number, then the tests of `limited_in`, one step of the sequence each.
use Rattle.scope.specs.Calendar.{limited_in}
use Rattle.number.proofs.laws.Sequence.{sequence, said-on}
use Rattle.calendar.proofs.period.limited_in.Goals as goal

pub returns-in_err-v : goal.returns-in_err-v
unfolding limited_in
returns-in_err-v c = said-on _ _ _ c.from_residual.ensures (search (sequence, c.in_err-v.ensures))

pub returns-then-v-lo : goal.returns-then-v-lo
unfolding limited_in
returns-then-v-lo c = search (sequence, c.in_ok-v.ensures) depth 12

pub returns-then-hi-v : goal.returns-then-hi-v
unfolding limited_in
returns-then-hi-v c = search (sequence, c.in_ok-v.ensures) depth 12

pub returns : goal.returns
unfolding limited_in
returns c = search (sequence, c.in_ok-v.ensures) depth 12
