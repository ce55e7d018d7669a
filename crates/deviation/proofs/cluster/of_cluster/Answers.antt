-- `deviation::cluster::of_cluster` meets its contract. The resource's row and the listed groups are there.
use native.Mathlib.Omega.{arith}
use Rattle.deviation.specs.Charge.{cluster_charge}
use Rattle.deviation.proofs.laws.Charge.{resource-row, groups-listed}
use Rattle.deviation.proofs.cluster.of_cluster.Goals as goal

pub groups_used-count-requires : goal.groups_used-count-requires
groups_used-count-requires c = let p = c.requires in
    groups-listed p.1.0 p.1.1.0 p.1.1.1.1 (omega (arith, resource-row p.0 p.1.1.1.0, c.row_of-base.ensures))

pub returns : goal.returns
unfolding cluster_charge
returns c = rw (c.groups_used-count.ensures, c.row_of-base.ensures) at c.deviation.ensures
