-- `word::word_at` meets its contract: by the first byte.
use Rattle.solver_words.proofs.laws.Literals.{no_word, word_minus, word_zero, word_plain}
use Rattle.solver_words.proofs.word.word_at.Goals as goal

pub returns-then-text-at : goal.returns-then-text-at
returns-then-text-at c = no_word _ _ _ c.if-text-at.true

pub returns-in-Some : goal.returns-in-Some
returns-in-Some c = word_minus _ _ _ c.if-text-at.false c.if-b-eq45.true c.variable_at.result c.variable_at.ensures (rw c.in-Some.is)

pub returns-in-None : goal.returns-in-None
returns-in-None c = word_minus _ _ _ c.if-text-at.false c.if-b-eq45.true c.variable_at.result c.variable_at.ensures (rw c.in-None.is)

pub returns-then-b-eq48 : goal.returns-then-b-eq48
returns-then-b-eq48 c = word_zero _ _ _ c.if-text-at.false c.if-b-eq48.true c.closing.ensures

pub returns-in-Some-variable_at : goal.returns-in-Some-variable_at
returns-in-Some-variable_at c = word_plain _ _ _ c.if-text-at.false c.if-b-eq45.false c.if-b-eq48.false c.variable_at-2.result c.variable_at-2.ensures (rw c.in-Some-variable_at.is)

pub returns-in-None-variable_at : goal.returns-in-None-variable_at
returns-in-None-variable_at c = word_plain _ _ _ c.if-text-at.false c.if-b-eq45.false c.if-b-eq48.false c.variable_at-2.result c.variable_at-2.ensures (rw c.in-None-variable_at.is)
