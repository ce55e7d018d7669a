-- `words::step` meets its contract: a space, or a word.
use Rattle.solver_lines.proofs.laws.Words.{stepped_space, stepped_word}
use Rattle.solver_lines.proofs.words.step.Goals as goal

pub returns-then-text-at-eq32 : goal.returns-then-text-at-eq32
returns-then-text-at-eq32 c = stepped_space _ _ _ c.requires.0 c.requires.1 _ _ c.if-text-at-eq32.true

pub returns : goal.returns
returns c = stepped_word _ _ _ c.requires.0 c.requires.1 _ _ c.if-text-at-eq32.false c.take_word.ensures
