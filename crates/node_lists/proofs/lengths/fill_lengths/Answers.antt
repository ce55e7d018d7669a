use Rattle.node_lists.proofs.LengthNodes.{times_none, times_more, length-going, length-outside, first_next, lengths_stored}
use Rattle.node_lists.specs.Lengths.{going_gates, outside_gates}
use Rattle.list_nodes.proofs.laws.Ground.{head-sizes}
use Rattle.literals.specs.Variables.{base_of}
use Rattle.scope.specs.Cnf.{Gate}
use native.Mathlib.Omega.{arith}
use native.Mathlib.Nat.{mul-le-mul}
use mathlib.Core.List.{List}
use mathlib.Core.Path.{◌≡◌, refl, sym, ap, ◌∙◌}
use Prim.Native.Nat.{ℕ, ◌-◌}
use Rattle.node_lists.proofs.lengths.fill_lengths.Goals as goal

pub numbering-l-requires : goal.numbering-l-requires
numbering-l-requires c = let p = c.requires.0 in (p.times, (p.events, p.resources))

pub base-s-requires : goal.base-s-requires
base-s-requires c = let p = c.requires in
    (rw c.numbering-l.ensures (omega (arith, (head-sizes p.0).starts)), (p.0.times, record { low = p.1.0.0.low; high = omega (arith, p.1.0.0.high, p.0.events) }))

pub store_going_on-at-requires : goal.store_going_on-at-requires
store_going_on-at-requires c = let p = c.requires in
    let n = p.1.0.1 in
    (record { low = omega (arith, n.low, n.high); high = p.0.times }, (record { low = p.1.0.0.low; high = omega (arith, p.1.0.0.high, p.0.events) }, (c.base-s.ensures.small, (p.1.1.0, p.1.1.1))))

pub overflow_add-o : goal.overflow_add-o
overflow_add-o c = omega (arith, c.requires.0.times, c.requires.1.1.0)

pub loop-t-init : goal.loop-t-init
loop-t-init c = let q = c.store_going_on-at.ensures in
    let p = c.requires in
    (omega arith, omega arith, omega (arith, q.upper_bound), c.out-1.given ∙ p.1.1.1, times_none _ _ _ q.holds)

pub store_outside-at-requires : goal.store_outside-at-requires
store_outside-at-requires c = let p = c.requires in
    let l = c.loop-t in
    let m = p.1.0.1 in
    let n = p.1.0.2 in
    (record { low = omega (arith, n.low, n.high); high = p.0.times }, (record { low = m.low; high = m.high }, (record { low = n.low; high = n.high }, (record { low = omega arith; high = omega arith }, (c.base-s.ensures.small, (p.1.1.0, (omega (arith, l.invariant.1, p.0.times, p.1.1.0), omega (arith, l.invariant.2, l.invariant.3, p.0.times))))))))

pub overflow_add-o-in-loop-t : goal.overflow_add-o-in-loop-t
overflow_add-o-in-loop-t c = let l = c.loop-t in omega (arith, l.invariant.1, c.nodes_each-step.ensures.lower_bound.1, c.requires.0.times, c.requires.1.1.0)

pub loop-t-preserved : goal.loop-t-preserved
loop-t-preserved c = let a = c.args in
    let p = c.requires in
    let l = c.loop-t in
    let s = c.base-s.result in
    let k = c.nodes_each-step in
    let n = p.1.0.1 in
    let q = c.store_outside-at.ensures in
    let T = a.head.times in
    let G = going_gates T (base_of 0 T a.f.event) s in
    let g : ℕ → ℕ → List Gate = λ t o. outside_gates T a.f.shortest a.f.longest s a.v t o in
    let e = length-going T (base_of 0 T a.f.event) s (omega (arith, n.low, n.high)) in
    (rw l.invariant.0 (first_next T a.v k.result l.t (omega arith)), omega (arith, l.invariant.1, k.ensures.lower_bound.1), omega (arith, l.invariant.2, q.upper_bound), c.out-in-loop-t-1.given ∙ l.invariant.3, times_more G k.result _ (λ t. length-outside T a.f.shortest a.f.longest s a.v t _ ∙ sym k.ensures.value) a.v (l.t - 1) l.invariant.4 l.o l.t _ (g l.t l.o) (l.invariant.0 ∙ rw e) (omega arith) (omega arith) (ap (g l.t) l.invariant.0) q.holds)

pub overflow_add-v : goal.overflow_add-v
overflow_add-v c = omega (arith, c.nodes_each-step.ensures.lower_bound.1, c.requires.0.times, c.requires.1.1.0)

pub overflow_add-v-2 : goal.overflow_add-v-2
overflow_add-v-2 c = omega (arith, c.nodes_each-step.ensures.lower_bound.1, c.requires.0.times, c.requires.1.1.0)

pub overflow_sub-v : goal.overflow_sub-v
overflow_sub-v c = omega (arith, c.nodes_each-step.ensures.lower_bound.0)

pub outputs-end-requires : goal.outputs-end-requires
outputs-end-requires c = let p = c.requires in
    let l = c.loop-t in
    let k = c.nodes_each-step.ensures.lower_bound in
    (omega (arith, l.invariant.2, l.invariant.3, p.0.times), omega (arith, mul-le-mul k.1 p.0.times, k.1, p.0.times, p.1.1.0))

pub overflow_sub-result : goal.overflow_sub-result
overflow_sub-result c = omega (arith, c.loop-t.invariant.0)

pub shape_of-out : goal.shape_of-out
shape_of-out c = c.out-2-1.given ∙ c.loop-t.invariant.3 ∙ sym c.requires.1.1.1

pub returns : goal.returns
returns c = let a = c.args in
    let p = c.requires in
    let l = c.loop-t in
    let k = c.nodes_each-step in
    let n = p.1.0.1 in
    let e : l.t - 1 ≡ a.head.times = omega arith in
    lengths_stored a.head a.v a.f.event (omega (arith, n.low, n.high)) a.f.shortest a.f.longest k.result n.low k.ensures.value (rw (c.base-s.ensures.value, c.numbering-l.ensures, e) at l.invariant.4) _ refl c.outputs-end.ensures _ (omega (arith, rw e at l.invariant.0))
