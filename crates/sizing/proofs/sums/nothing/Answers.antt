-- `sums::nothing` meets its contract.
-- Assumes nothing.
use borrow.Author.Rules.{rules}
use Rattle.sizing.specs.Sums.{none}
use Rattle.sizing.proofs.sums.nothing.Goals as goal

pub returns : goal.returns
unfolding none
returns c = search rules
