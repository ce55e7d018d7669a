-- `timetable_text` meets its contract: the operation's answer, and what it leaves.
use Rattle.operation_calls.proofs.laws.Returned.{text_told}
use Rattle.engine.proofs.timetable_text.Goals as goal

pub returns : goal.returns
returns c = let a = c.args in
    text_told _ a.out.now c.text-answer.result c.text-answer.ensures c.leave_number.ensures
