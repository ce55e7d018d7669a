use borrow.Author.Rules.{rules}
use Rattle.timetable.proofs.laws.Right.{walking}
use Rattle.timetable.proofs.check.starts_right.Goals as goal

pub returns-then-not-start_right : goal.returns-then-not-start_right
returns-then-not-start_right c = search (rules, walking)

pub loop-i-preserved : goal.loop-i-preserved
loop-i-preserved c = search (rules, walking)

pub returns : goal.returns
returns c = search (rules, walking)
