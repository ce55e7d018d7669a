-- `timetable_same_sheet` meets its contract: the operation's answer, and what it leaves.
use mathlib.Core.Path.{ap, ◌∙◌}
use Rattle.calls.specs.Outputs.{leaves_sameness}
use Rattle.engine.proofs.timetable_same_sheet.Goals as goal

pub returns : goal.returns
returns c = c.leave_sameness.ensures ∙ ap leaves_sameness c.same_sheet-answer.ensures
