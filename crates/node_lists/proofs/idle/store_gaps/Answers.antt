use Rattle.node_lists.proofs.IdleNodes.{gaps-none, gaps-more}
use lib.ListN.{take}
use native.Mathlib.Omega.{arith}
use mathlib.Core.Path.{◌≡◌, refl, ◌∙◌}
use Prim.Native.Nat.{◌+◌, ◌-◌, ◌*◌}
use Rattle.node_lists.proofs.idle.store_gaps.Goals as goal

pub loop-k-init : goal.loop-k-init
loop-k-init c = (omega arith, refl, gaps-none _ _ _ _ (omega arith))

pub loop-k-preserved : goal.loop-k-preserved
loop-k-preserved c = let l = c.loop-k in
    let a = c.args in
    let q = c.store_gap-end.ensures in
    (omega (arith, q.upper_bound), c.out-1.given ∙ l.invariant.1, gaps-more (take a.at a.out.now) (take a.n a.row.now) a.v l.k l.invariant.2 (l.k + 1) (a.v + 3 * l.k) (omega arith) refl q.holds _ refl)

pub returns : goal.returns
returns c = let l = c.loop-k in let e : l.k ≡ c.args.n - 2 = omega arith in record { holds = rw e at l.invariant.2.holds; upper_bound = omega (arith, l.invariant.0) }
