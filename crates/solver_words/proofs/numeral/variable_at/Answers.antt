-- `numeral::variable_at` meets its contract: the first digit is not 0.
use mathlib.Core.Path.{◌∙◌}
use Rattle.solver_words.proofs.laws.Literals.{variable_past, variable_zero, variable_more}
use Rattle.solver_words.proofs.numeral.variable_at.Goals as goal

pub returns-then-text-at : goal.returns-then-text-at
returns-then-text-at c = variable_past _ _ _ c.if-text-at.true

pub returns-then-text-at-le48 : goal.returns-then-text-at-le48
returns-then-text-at-le48 c = variable_zero _ _ _ c.if-text-at.false c.if-text-at-le48.true

pub returns : goal.returns
returns c = c.numeral.ensures ∙ variable_more _ _ _ c.if-text-at.false c.if-text-at-le48.false
