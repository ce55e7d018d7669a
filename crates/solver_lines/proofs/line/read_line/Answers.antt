-- `line::read_line` meets its contract: by the line's first byte.
use mathlib.Core.Path.{sym, ◌∙◌}
use Rattle.solver_lines.proofs.laws.Lines.{line_passed, line_other, line_values}
use Rattle.solver_lines.proofs.line.read_line.Goals as goal

pub returns-then-passed_over : goal.returns-then-passed_over
returns-then-passed_over c = line_passed _ _ _ c.requires.0 _ _ (sym c.passed_over.ensures ∙ c.if-passed_over.true) c.line_end-end.ensures

pub returns-then-b-ne118 : goal.returns-then-b-ne118
returns-then-b-ne118 c = line_other _ _ _ c.requires.0 _ _ (sym c.passed_over.ensures ∙ c.if-passed_over.false) c.if-b-ne118.true

pub returns : goal.returns
returns c = line_values _ _ _ c.requires.0 _ _ (sym c.passed_over.ensures ∙ c.if-passed_over.false) c.if-b-ne118.false c.read_values.ensures
