-- `rows::hard_unit` meets its contract.
-- Assumes nothing.
use Rattle.sizing.specs.Gates.{hard_unit}
use Rattle.sizing.specs.Sums.{none}
use Rattle.sizing.proofs.rows.hard_unit.Goals as goal

pub returns : goal.returns
unfolding hard_unit none
returns c = rw c.nothing.ensures
