-- `timetable_score` meets its contract: the operation's answer, and what it leaves.
use Rattle.engine.proofs.timetable_score.Goals as goal

pub returns : goal.returns
returns c = rw (← c.score-answer.ensures) c.leave_amounts.ensures
