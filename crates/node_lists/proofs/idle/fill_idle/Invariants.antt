-- `node_lists::idle::fill_idle` meets its contract. The loop's invariant: the nodes of the groups passed, how many idle times they have, and what is known of all groups.
use Rattle.node_lists.proofs.IdleNodes.{IdleIn, IdleTo}
use Rattle.node_lists.specs.Cluster.{row_in}
use lib.ListN.{length}
use mathlib.Core.Path.{◌≡◌}
use Prim.Native.Nat.{◌+◌, ◌*◌, ◌≤◌}
use Rattle.node_lists.proofs.idle.fill_idle.Given as goal

abbrev pub invariant-loop-i : goal.invariant-loop-i
invariant-loop-i l = (length l.out ≡ 34816) × (length l.row ≡ 125) × (l.found ≤ 255) × (l.v + 3 * l.found ≤ 8000001) × (l.at ≤ 134 * l.found)
    × IdleIn l.times l.uses (row_in l.groups) l.resource l.list l.v l.count × IdleTo l.times l.uses (row_in l.groups) l.resource l.list l.v l.out l.at l.found l.i
