-- `deviation::unavailable::of_unavailable` meets its contract. The resource's row and the group are there.
use native.Mathlib.Omega.{arith}
use Rattle.deviation.specs.Charge.{unavailable_charge}
use Rattle.deviation.proofs.laws.Charge.{resource-row, group_row, group_inside}
use Rattle.deviation.proofs.unavailable.of_unavailable.Goals as goal

pub ones_in-requires : goal.ones_in-requires
ones_in-requires c = let p = c.requires in
    (group_row p.1.0 p.1.1.1, group_inside p.1.0 p.1.1.1 (omega (arith, resource-row p.0 p.1.1.0, c.row_of-base.ensures)))

pub returns : goal.returns
unfolding unavailable_charge
returns c = rw c.row_of-base.ensures at c.ones_in.ensures.0
