-- `timetable::check::event_right` meets its contract. The count and the walk are the two parts of the definition.
use Rattle.timetable.proofs.laws.Right.{events}
use borrow.Author.Rules.{rules}
use Rattle.timetable.proofs.check.event_right.Goals as goal

pub returns-then-ones-from : goal.returns-then-ones-from
returns-then-ones-from c = search (rules, events)

pub returns : goal.returns
returns c = search (rules, events)
