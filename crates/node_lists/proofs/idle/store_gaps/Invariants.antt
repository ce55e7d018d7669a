-- `node_lists::idle::store_gaps` meets its contract. The loop's invariant: the nodes of the members passed.
use Rattle.node_lists.proofs.IdleNodes.{GapsTo}
use lib.ListN.{length, take}
use mathlib.Core.Path.{◌≡◌}
use Prim.Native.Nat.{◌+◌, ◌*◌, ◌≤◌}
use Rattle.node_lists.proofs.idle.store_gaps.Given as goal

abbrev pub invariant-loop-k : goal.invariant-loop-k
invariant-loop-k l = (l.end ≤ l.at + 134 * l.k) × (length l.out ≡ length l.initial.out) × GapsTo (take l.at l.initial.out) (take l.n l.row) l.v l.out l.end l.k
