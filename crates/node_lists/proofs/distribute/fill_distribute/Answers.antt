use Rattle.node_lists.proofs.LengthNodes.{times_none, times_more, length-going, one-node-after, distribute_stored}
use Rattle.node_lists.specs.Lengths.{going_gates, length_gate}
use Rattle.list_nodes.proofs.laws.Ground.{head-sizes}
use Rattle.literals.specs.Variables.{base_of}
use Rattle.literals.proofs.laws.Words.{holds_as}
use lib.ListN.{take}
use native.Mathlib.Omega.{arith}
use mathlib.Core.List.{[], ◌∷◌}
use mathlib.Core.Path.{◌≡◌, refl, sym, ◌∙◌}
use Prim.Native.Nat.{◌+◌, ◌-◌}
use Rattle.node_lists.proofs.distribute.fill_distribute.Goals as goal

pub numbering-l-requires : goal.numbering-l-requires
numbering-l-requires c = let p = c.requires.0 in (p.times, (p.events, p.resources))

pub base-s-requires : goal.base-s-requires
base-s-requires c = let p = c.requires in
    (rw c.numbering-l.ensures (omega (arith, (head-sizes p.0).starts)), (p.0.times, record { low = p.1.0.0.low; high = omega (arith, p.1.0.0.high, p.0.events) }))

pub store_going_on-at-requires : goal.store_going_on-at-requires
store_going_on-at-requires c = let p = c.requires in
    let n = p.1.0.1 in
    (record { low = omega (arith, n.low, n.high); high = p.0.times }, (record { low = p.1.0.0.low; high = omega (arith, p.1.0.0.high, p.0.events) }, (c.base-s.ensures.small, (p.1.1.0, p.1.1.1))))

pub loop-t-init : goal.loop-t-init
loop-t-init c = let q = c.store_going_on-at.ensures in
    let p = c.requires in
    (omega (arith, q.upper_bound), c.out-1.given ∙ p.1.1.1, times_none _ _ _ q.holds)

pub store_start-at-requires : goal.store_start-at-requires
store_start-at-requires c = let p = c.requires in
    let l = c.loop-t in
    let n = p.1.0.1 in
    (record { low = omega (arith, n.low, n.high); high = p.0.times }, (record { low = n.low; high = n.high }, (record { low = omega arith; high = omega arith }, (c.base-s.ensures.small, (p.1.1.0, (omega (arith, p.0.times, p.1.1.0), omega (arith, l.invariant.0, l.invariant.1, p.0.times)))))))

pub loop-t-preserved : goal.loop-t-preserved
loop-t-preserved c = let a = c.args in
    let p = c.requires in
    let l = c.loop-t in
    let s = c.base-s.result in
    let n = p.1.0.1 in
    let q = c.store_start-at.ensures in
    let G = going_gates a.head.times (base_of 0 a.head.times a.f.event) s in
    let o = a.v + a.head.times + (l.t - 1) in
    let g = length_gate a.head.times a.f.length s a.v l.t in
    let e = length-going a.head.times (base_of 0 a.head.times a.f.event) s (omega (arith, n.low, n.high)) in
    (omega (arith, l.invariant.0, q.upper_bound), c.out-in-loop-t-1.given ∙ l.invariant.1, times_more G 1 _ (λ t. refl) a.v (l.t - 1) l.invariant.2 o l.t _ (g ∷ []) (omega (arith, e)) (omega arith) (omega arith) refl (holds_as (sym (one-node-after (take l.at l.out) o g)) q.holds))

pub outputs-end-requires : goal.outputs-end-requires
outputs-end-requires c = let p = c.requires in
    let l = c.loop-t in
    (omega (arith, l.invariant.0, l.invariant.1, p.0.times), omega (arith, p.0.times, p.1.1.0))

pub shape_of-out : goal.shape_of-out
shape_of-out c = c.out-2-1.given ∙ c.loop-t.invariant.1 ∙ sym c.requires.1.1.1

pub returns : goal.returns
returns c = let a = c.args in
    let p = c.requires in
    let l = c.loop-t in
    let n = p.1.0.1 in
    let e : l.t - 1 ≡ a.head.times = omega arith in
    distribute_stored a.head a.v a.f.event (omega (arith, n.low, n.high)) a.f.length a.f.lo a.f.hi n.low (rw (c.base-s.ensures.value, c.numbering-l.ensures, e) at l.invariant.2) c.outputs-end.ensures _ refl
