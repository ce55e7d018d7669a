use mathlib.Core.Path.{sym, ap, ◌∙◌}
use mathlib.Core.Bool.{not}
use Rattle.sink.proofs.Truth.{lit-negative, lit-positive}
use Rattle.sink.proofs.judge.literal_true.Goals as goal

pub returns-then-l-eq1 : goal.returns-then-l-eq1
returns-then-l-eq1 c = ap not c.variable_true-t.ensures ∙ sym (lit-negative _ _ c.if-l-eq1.true)

pub returns : goal.returns
returns c = c.variable_true-t.ensures ∙ sym (lit-positive _ _ c.if-l-eq1.false)
