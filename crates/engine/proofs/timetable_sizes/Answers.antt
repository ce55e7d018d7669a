-- `timetable_sizes` meets its contract: the operation's answer, and what it leaves.
use Rattle.engine.proofs.timetable_sizes.Goals as goal

pub returns : goal.returns
returns c = rw (← c.sizes-answer.ensures) c.leave_sizes.ensures
