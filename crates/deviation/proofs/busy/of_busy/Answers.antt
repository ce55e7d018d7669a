-- `deviation::busy::of_busy` meets its contract. The resource's row and the group are there.
use native.Mathlib.Omega.{arith}
use Rattle.deviation.specs.Charge.{busy_charge}
use Rattle.deviation.proofs.laws.Charge.{resource-row, group_row, group_inside}
use Rattle.deviation.proofs.busy.of_busy.Goals as goal

pub ones_in-count-requires : goal.ones_in-count-requires
ones_in-count-requires c = let p = c.requires in
    (group_row p.1.0 p.1.1.1, group_inside p.1.0 p.1.1.1 (omega (arith, resource-row p.0 p.1.1.0, c.row_of-base.ensures)))

pub returns : goal.returns
unfolding busy_charge
returns c = rw (c.ones_in-count.ensures.0, c.row_of-base.ensures) at c.deviation_used.ensures
