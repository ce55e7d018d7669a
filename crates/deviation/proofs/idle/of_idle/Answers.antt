-- `deviation::idle::of_idle` meets its contract. The resource's row and the listed groups are there.
use native.Mathlib.Omega.{arith}
use Rattle.deviation.specs.Charge.{idle_charge}
use Rattle.deviation.proofs.laws.Charge.{resource-row, groups-listed}
use Rattle.deviation.proofs.idle.of_idle.Goals as goal

pub groups_idle-count-requires : goal.groups_idle-count-requires
groups_idle-count-requires c = let p = c.requires in
    groups-listed p.1.0 p.1.1.0 p.1.1.1.1 (omega (arith, resource-row p.0 p.1.1.1.0, c.row_of-base.ensures))

pub returns : goal.returns
unfolding idle_charge
returns c = rw (c.groups_idle-count.ensures, c.row_of-base.ensures) at c.deviation.ensures
