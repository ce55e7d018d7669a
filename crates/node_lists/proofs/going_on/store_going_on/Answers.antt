use Rattle.node_lists.proofs.LengthNodes.{going_none, going_more, going_last}
use lib.ListN.{length-set}
use native.Mathlib.Omega.{arith}
use mathlib.Core.Path.{refl, sym, ◌∙◌}
use Prim.Native.Nat.{◌-◌}
use Rattle.node_lists.proofs.going_on.store_going_on.Goals as goal

pub base-y-requires : goal.base-y-requires
base-y-requires c = let p = c.requires in (omega arith, (p.0.high, p.1.0))

pub loop-t-init : goal.loop-t-init
loop-t-init c = (omega arith, c.requires.1.1.1.1, going_none _ _ _ _)

pub loop-t-preserved : goal.loop-t-preserved
loop-t-preserved c = let l = c.loop-t in
    let q = c.store_until-at.ensures in
    (omega (arith, q.value), c.out-1.given ∙ l.invariant.1, going_more _ _ _ (l.t - 2) l.invariant.2 _ l.t _ refl (omega arith) (omega arith) q.holds)

pub bounds-out-at-2 : goal.bounds-out-at-2
bounds-out-at-2 c = simp length-set (omega (arith, c.loop-t.invariant.1))

pub shape_of-out : goal.shape_of-out
shape_of-out c = simp length-set (c.loop-t.invariant.1 ∙ sym c.requires.1.1.1.1)

pub returns : goal.returns
returns c = let l = c.loop-t in
    let a = c.args in
    let b = rw c.base-y.ensures.value at l.invariant.2 in record { holds = going_last _ a.s a.v a.times b (omega arith) (omega (arith, l.invariant.1)) _ (omega arith); upper_bound = omega arith }
