use borrow.Author.Rules.{rules}
use Rattle.node_lists.proofs.IdleNodes.{idle_none, idle_next, idle_turn, idle-stored}
use Rattle.list_nodes.proofs.laws.Ground.{ground_sizes, ground_resource, ground_group, ground_groups, groups_room, leading_at, rows_short}
use Rattle.literals.proofs.laws.Variables.{uses-block}
use native.Mathlib.Omega.{arith}
use mathlib.Core.Path.{◌≡◌, refl, ◌∙◌}
use Prim.Native.Nat.{◌+◌, ◌*◌}
use Rattle.node_lists.proofs.idle.fill_idle.Goals as goal

pub loop-i-init : goal.loop-i-init
loop-i-init c = let a = c.args in
    let p = c.requires in
    let u = c.numbering-l.ensures in
    (p.1.1.1.1.1, refl, omega arith, omega (arith, p.1.1.1.1.0), omega arith, record { room = groups_room p.0 a.list.now a.f.groups p.1.1.0 p.1.0.1; short = rows_short p.0 (ground_groups p.0 p.1.0.1); most = rw u p.1.1.1.0; last = rw u p.1.1.1.1.0 }, idle_none _ _ _ _ _ _ _)

pub offset_bounds-list-i : goal.offset_bounds-list-i
offset_bounds-list-i c = omega (arith, c.loop-i.invariant.5.room)

pub bounds-list-i : goal.bounds-list-i
bounds-list-i c = omega (arith, c.loop-i.invariant.5.room)

pub overflow_cast-g : goal.overflow_cast-g
overflow_cast-g c = omega (arith, c.type_inv.list c.loop-i.i)

pub x_of_group-n-requires : goal.x_of_group-n-requires
x_of_group-n-requires c = let a = c.args in
    let p = c.requires in
    let l = c.loop-i in
    let o = leading_at a.list.now a.f.groups l.i (ground_groups p.0 p.1.0.1) c.loop-i-test.true in
    (ground_group p.0 o, (rw c.numbering-l.ensures (uses-block (ground_sizes p.0)), (ground_resource p.0 p.1.0.0, omega (arith, l.invariant.1))))

pub store_gaps-at-requires : goal.store_gaps-at-requires
store_gaps-at-requires c = let a = c.args in
    let l = c.loop-i in
    let b = idle_next _ _ _ _ a.list.now a.v l.i l.invariant.6 c.x_of_group-n.ensures l.invariant.5 c.loop-i-test.true in
    (b.short, (omega (arith, l.invariant.1), (omega (arith, l.invariant.0, l.invariant.4), omega arith)))

pub overflow_add-found : goal.overflow_add-found
overflow_add-found c = let a = c.args in
    let l = c.loop-i in
    let b = idle_next _ _ _ _ a.list.now a.v l.i l.invariant.6 c.x_of_group-n.ensures l.invariant.5 c.loop-i-test.true in
    omega (arith, b.most, c.saturating_sub.ensures)

pub loop-i-preserved : goal.loop-i-preserved
loop-i-preserved c = let a = c.args in
    let l = c.loop-i in
    let x = c.x_of_group-n in
    let q = c.store_gaps-at.ensures in
    let e = c.saturating_sub.ensures in
    let b = idle_next _ _ _ _ a.list.now a.v l.i l.invariant.6 x.ensures l.invariant.5 c.loop-i-test.true in
    (c.out-1.given ∙ l.invariant.0, search rules, omega arith, omega arith, omega (arith, l.invariant.4, q.upper_bound), l.invariant.5, idle_turn _ _ _ _ a.list.now a.v l.i l.invariant.6 x.ensures (a.v + 3 * l.found) refl q.holds _ e)

pub outputs-end-requires : goal.outputs-end-requires
outputs-end-requires c = let l = c.loop-i in (omega (arith, l.invariant.0, l.invariant.4), omega arith)

pub returns : goal.returns
returns c = let a = c.args in
    let p = c.requires in
    let l = c.loop-i in
    let e : l.i ≡ a.f.groups = omega arith in
    idle-stored a.head a.groups.now a.f.resource a.list.now a.f.groups a.f.lo a.f.hi a.v (ground_groups p.0 p.1.0.1) (rw (c.numbering-l.ensures, e) at l.invariant.6) c.outputs-end.ensures _ refl
