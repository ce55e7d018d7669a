-- `timetable::check::checked` meets its contract. Length, bytes and events in this order, each a law of Refusals.
use Rattle.timetable.proofs.laws.Refusals.{refusals}
use Rattle.timetable.proofs.check.checked.Goals as goal

pub returns-in-Some-first_wrong : goal.returns-in-Some-first_wrong
returns-in-Some-first_wrong c = λ i l. search refusals depth 12

pub returns : goal.returns
returns c = λ i l. search refusals depth 12
