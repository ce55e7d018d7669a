-- `size::form_of` meets its contract: the length, then the bytes.
use Rattle.model.proofs.laws.Answers.{form_short, form_above, form_right}
use Rattle.model.proofs.size.form_of.Goals as goal

pub returns-then-size-variables : goal.returns-then-size-variables
returns-then-size-variables c = form_short _ _ c.if-size-variables.true

pub returns-in-Some : goal.returns-in-Some
returns-in-Some c = form_above _ _ c.if-size-variables.false c.first_above.ensures c.in-Some.is

pub returns-in-None : goal.returns-in-None
returns-in-None c = form_right _ _ c.if-size-variables.false c.first_above.ensures c.in-None.is
