-- `node_lists::idle::store_gap` meets its contract.
use Rattle.node_lists.proofs.IdleNodes.{gap-stored}
use native.Mathlib.Omega.{arith}
use Rattle.node_lists.proofs.idle.store_gap.Goals as goal

pub returns : goal.returns
returns c = let a = c.args in
    let x = c.store_or-a.ensures in
    let y = c.store_or-b.ensures in
    let z = c.store_idling.ensures in record { holds = gap-stored a.row.now a.n a.k a.v (omega arith) a.out.now a.at x.holds y.holds z.holds; upper_bound = omega (arith, x.value, y.value, z.value) }
