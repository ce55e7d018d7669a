use Rattle.node_lists.proofs.ClusterNodes.{ors_none, ors_more, cluster-stored}
use Rattle.list_nodes.proofs.laws.Ground.{ground_sizes, ground_resource, ground_group, ground_groups, leading_at}
use Rattle.literals.specs.Variables.{literal_at}
use Rattle.tables.specs.Rows.{row_at}
use lib.ListN.{get_or}
use native.Mathlib.Omega.{arith}
use mathlib.Core.List.{map}
use mathlib.Core.Path.{◌≡◌, refl, ◌∙◌}
use Prim.Native.Nat.{◌+◌, ◌-◌}
use Rattle.node_lists.proofs.cluster.fill_cluster.Goals as goal

pub base-base-requires : goal.base-base-requires
base-base-requires c = let p = c.requires in (rw c.numbering-l.ensures (ground_sizes p.0).uses, (p.0.times, ground_resource p.0 p.1.0.0))

pub loop-i-init : goal.loop-i-init
loop-i-init c = (omega arith, refl, ors_none _ _ _ _ _ _ _)

pub overflow_cast-g : goal.overflow_cast-g
overflow_cast-g c = omega (arith, c.type_inv.list c.loop-i.i)

pub store_group-at-requires : goal.store_group-at-requires
store_group-at-requires c = let a = c.args in
    let p = c.requires in
    let l = c.loop-i in
    let o = leading_at a.list.now a.f.groups l.i (ground_groups p.0 p.1.0.1) c.loop-i-test.true in
    (ground_group p.0 o, (c.base-base.ensures.small, (omega (arith, l.invariant.0, l.invariant.1), omega arith)))

pub loop-i-preserved : goal.loop-i-preserved
loop-i-preserved c = let a = c.args in
    let l = c.loop-i in
    let b = c.base-base in
    let g = get_or a.list.now l.i 0 in
    let xs = map (literal_at b.result) (row_at a.groups.now (g - 1)) in
    let q = c.store_group-at.ensures in
    (omega (arith, l.invariant.0, q.upper_bound), c.out-1.given ∙ l.invariant.1, ors_more _ _ _ _ _ a.v l.i xs l.invariant.2 (rw b.ensures.value) (a.v + l.i) refl q.holds)

pub outputs-end-requires : goal.outputs-end-requires
outputs-end-requires c = let l = c.loop-i in (omega (arith, l.invariant.0, l.invariant.1), omega arith)

pub returns : goal.returns
returns c = let a = c.args in
    let p = c.requires in
    let l = c.loop-i in
    let e : l.i ≡ a.f.groups = omega arith in
    cluster-stored a.head a.groups.now a.f.resource a.list.now a.f.groups a.f.lo a.f.hi a.v (ground_groups p.0 p.1.0.1) (rw (c.numbering-l.ensures, e) at l.invariant.2) c.outputs-end.ensures
