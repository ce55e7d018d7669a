-- `blocks::or_size` meets its contract.
-- Assumes nothing.
use Rattle.sizing.specs.Gates.{or_size}
use Rattle.sizing.specs.Sums.{none}
use Rattle.sizing.proofs.blocks.or_size.Goals as goal

pub returns : goal.returns
unfolding or_size none
returns c = rw c.nothing.ensures
