use borrow.Author.Rules.{rules}
use Rattle.timetable.proofs.laws.Right.{passing}
use Rattle.timetable.proofs.check.first_wrong.Goals as goal

pub returns-then-not-event_right : goal.returns-then-not-event_right
returns-then-not-event_right c = search (rules, passing)

pub loop-e-preserved : goal.loop-e-preserved
loop-e-preserved c = search (rules, passing)

pub returns : goal.returns
returns c = search (rules, passing)
