-- `rows::later_row` meets its contract.
-- Assumes nothing.
use native.Mathlib.Omega.{arith}
use Rattle.sizing.proofs.laws.Sums.{equal}
use Rattle.sizing.specs.Rows.{later_row}
use Rattle.sizing.specs.Sums.{none}
use Rattle.sizing.proofs.rows.later_row.Goals as goal

pub returns : goal.returns
unfolding later_row none
returns c = rw c.nothing.ensures (equal (omega arith))
