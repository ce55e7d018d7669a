-- `node_lists::cluster::fill_cluster` meets its contract. The loop's invariant: the nodes of the groups passed.
use Rattle.node_lists.proofs.ClusterNodes.{OrsTo}
use Rattle.node_lists.specs.Cluster.{row_in}
use lib.ListN.{length}
use mathlib.Core.Path.{◌≡◌}
use Prim.Native.Nat.{◌*◌, ◌≤◌}
use Rattle.node_lists.proofs.cluster.fill_cluster.Given as goal

abbrev pub invariant-loop-i : goal.invariant-loop-i
invariant-loop-i l = (l.at ≤ 127 * l.i) × (length l.out ≡ length l.initial.out) × OrsTo l.times l.uses (row_in l.groups) l.resource l.list l.v l.out l.at l.i
