use mathlib.Core.Path.{◌∙◌}
use Rattle.row_value.proofs.laws.Evaluate.{column-none, column-some}
use Rattle.row_value.proofs.column_true.Goals as goal

pub returns-then-prev-eq0 : goal.returns-then-prev-eq0
returns-then-prev-eq0 c = column-none _ _ _ c.if-prev-eq0.true

pub returns : goal.returns
returns c = c.variable_true.ensures ∙ column-some _ _ _ c.if-prev-eq0.false
