-- `node_lists::going_on::store_going_on` meets its contract. The loop's invariant: M of the times passed.
use Rattle.node_lists.proofs.LengthNodes.{GoingTo}
use lib.ListN.{length}
use mathlib.Core.Path.{◌≡◌}
use Prim.Native.Nat.{◌-◌, ◌*◌}
use Rattle.node_lists.proofs.going_on.store_going_on.Given as goal

abbrev pub invariant-loop-t : goal.invariant-loop-t
invariant-loop-t l = (l.at ≡ 4 * (l.t - 2)) × (length l.out ≡ 34816) × GoingTo l.y l.s l.v l.out l.at (l.t - 2)
