-- `line::read_values` meets its contract: nothing follows the v, or a space, or a fault.
use Rattle.solver_words.proofs.laws.Words.{until_past, until_here}
use Rattle.solver_lines.proofs.laws.Lines.{values_none, values_fault, values_words}
use Rattle.solver_lines.proofs.line.read_values.Goals as goal

pub returns-then-text-at : goal.returns-then-text-at
returns-then-text-at c = values_none _ _ _ _ _ (until_past 10 _ _ c.if-text-at.true)

pub returns-then-text-at-eq10 : goal.returns-then-text-at-eq10
returns-then-text-at-eq10 c = values_none _ _ _ _ _ (until_here 10 _ _ c.if-text-at.false c.if-text-at-eq10.true)

pub returns-then-text-at-ne32 : goal.returns-then-text-at-ne32
returns-then-text-at-ne32 c = values_fault _ _ _ _ _ c.if-text-at.false c.if-text-at-eq10.false c.if-text-at-ne32.true

pub returns : goal.returns
returns c = values_words _ _ _ _ _ c.if-text-at.false c.if-text-at-eq10.false c.if-text-at-ne32.false c.read_words.ensures
