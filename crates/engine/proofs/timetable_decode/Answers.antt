-- `timetable_decode` meets its contract: the evaluation, and what it leaves.
use mathlib.Core.Path.{◌∙◌}
use Rattle.engine.proofs.laws.Decoded.{evaluation-call}
use Rattle.engine.proofs.timetable_decode.Goals as goal

pub returns : goal.returns
returns c = c.leave_evaluation.ensures ∙ evaluation-call _ _ _ _ c.evaluate-answer.ensures
