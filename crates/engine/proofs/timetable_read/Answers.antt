-- `timetable_read` meets its contract: the operation's answer, and what it leaves.
use Rattle.engine.proofs.timetable_read.Goals as goal

pub returns : goal.returns
returns c = rw (← c.read_instance-answer.ensures) c.leave_counts.ensures
