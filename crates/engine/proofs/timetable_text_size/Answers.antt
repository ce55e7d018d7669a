-- `timetable_text_size` meets its contract: the operation's answer, and what it leaves.
use Rattle.engine.proofs.timetable_text_size.Goals as goal

pub returns : goal.returns
returns c = rw (← c.text_size-answer.ensures) c.leave_length.ensures
