use mathlib.Core.Path.{refl, sym, ◌∙◌}
use Prim.Native.Nat.{◌-◌}
use native.Mathlib.Omega.{arith}
use Rattle.sink.specs.Run.{todo_start, todo_turn, todo_done}
use Rattle.sink.proofs.laws.Skipped.{skipped}
use Rattle.list_clauses.specs.Stored.{store_clauses}
use Rattle.list_clauses.proofs.laws.Stored.{left_start, left_all, left_node, left_turn, nodes-end}
use borrow.Author.Rules.{rules}
use Rattle.list_clauses.proofs.nodes.write_nodes.Goals as goal

pub returns-then-skips : goal.returns-then-skips
returns-then-skips c = let a = c.args in
    skipped a.job a.model.now (store_clauses a.count a.store.now) (sym c.skips.ensures ∙ c.if-skips.true)

pub loop-i-init : goal.loop-i-init
loop-i-init c = (omega arith, refl, refl, left_start c.args.count c.args.store.now c.requires, todo_start)

pub overflow_add-first : goal.overflow_add-first
overflow_add-first c = let a = c.args in
    let l = c.loop-i in
    omega (arith, (left_node a.count a.store.now l.i l.at c.loop-i-test.true l.invariant.3).room)

pub offset_bounds-store-at : goal.offset_bounds-store-at
offset_bounds-store-at c = let a = c.args in
    let l = c.loop-i in
    let r = (left_node a.count a.store.now l.i l.at c.loop-i-test.true l.invariant.3).room in
    search rules

pub bounds-store-at : goal.bounds-store-at
bounds-store-at c = let a = c.args in
    let l = c.loop-i in
    omega (arith, (left_node a.count a.store.now l.i l.at c.loop-i-test.true l.invariant.3).room)

pub overflow_cast-end : goal.overflow_cast-end
overflow_cast-end c = let l = c.loop-i in
    omega (arith, c.type_inv.store l.at)

pub overflow_add-end : goal.overflow_add-end
overflow_add-end c = let a = c.args in
    let l = c.loop-i in
    omega (arith, (left_node a.count a.store.now l.i l.at c.loop-i-test.true l.invariant.3).room)

pub overflow_add-end-in-loop-i : goal.overflow_add-end-in-loop-i
overflow_add-end-in-loop-i c = let a = c.args in
    let l = c.loop-i in
    omega (arith, (left_node a.count a.store.now l.i l.at c.loop-i-test.true l.invariant.3).room)

pub offset_bounds-store-first : goal.offset_bounds-store-first
offset_bounds-store-first c = let a = c.args in
    let l = c.loop-i in
    let r = (left_node a.count a.store.now l.i l.at c.loop-i-test.true l.invariant.3).room in
    search rules

pub write_node-z-requires : goal.write_node-z-requires
write_node-z-requires c = let a = c.args in
    let l = c.loop-i in
    (left_node a.count a.store.now l.i l.at c.loop-i-test.true l.invariant.3).long

pub loop-i-preserved : goal.loop-i-preserved
loop-i-preserved c = let a = c.args in
    let l = c.loop-i in
    let t = c.loop-i-test.true in (
      omega arith,
      search rules,
      search rules,
      (left_node a.count a.store.now l.i l.at t l.invariant.3).rest,
      todo_turn (left_turn a.count a.store.now l.i l.at t l.invariant.3) l.invariant.4 c.write_node-z.ensures,
    )

pub returns : goal.returns
returns c = let a = c.args in
    let l = c.loop-i in
    rw (← (left_all a.count a.store.now)) (todo_done (nodes-end (a.count - l.i) _ (omega arith)) l.invariant.4)

pub slice_bounds-write_node-end : goal.slice_bounds-write_node-end
slice_bounds-write_node-end c = let a = c.args in
    let l = c.loop-i in
    omega (arith, (left_node a.count a.store.now l.i l.at c.loop-i-test.true l.invariant.3).room)
