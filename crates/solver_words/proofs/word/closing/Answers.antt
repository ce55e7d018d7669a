-- `word::closing` meets its contract: the word is empty at its end, and else has a byte.
use Rattle.solver_words.proofs.laws.Words.{word_past, word_space, word_line_end, word_more}
use Rattle.solver_words.proofs.word.closing.Goals as goal

pub returns-then-text-next : goal.returns-then-text-next
returns-then-text-next c = rw (word_past _ _ c.if-text-next.true)

pub returns-then-b-eq32 : goal.returns-then-b-eq32
returns-then-b-eq32 c = rw (word_space _ _ c.if-text-next.false c.if-b-eq32.true)

pub returns-then-b-eq10 : goal.returns-then-b-eq10
returns-then-b-eq10 c = rw (word_line_end _ _ c.if-text-next.false c.if-b-eq10.true)

pub returns : goal.returns
returns c = rw (word_more _ _ c.if-text-next.false c.if-b-eq32.false c.if-b-eq10.false)
