-- `rows::first_row` meets its contract.
-- Assumes nothing.
use native.Mathlib.Omega.{arith}
use Rattle.sizing.proofs.laws.Sums.{equal}
use Rattle.sizing.specs.Rows.{first_row}
use Rattle.sizing.specs.Sums.{none}
use Rattle.sizing.proofs.rows.first_row.Goals as goal

pub returns : goal.returns
unfolding first_row none
returns c = rw c.nothing.ensures (equal (omega arith))
