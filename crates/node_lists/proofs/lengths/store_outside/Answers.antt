-- `node_lists::lengths::store_outside` meets its contract.
use borrow.Author.Tests.{ne_eqb}
use Rattle.node_lists.proofs.LengthNodes.{above_words, outside_stored}
use native.Mathlib.Omega.{arith}
use Rattle.node_lists.proofs.lengths.store_outside.Goals as goal

pub returns-then-a-eq1 : goal.returns-then-a-eq1
returns-then-a-eq1 c = let a = c.args in
    let p = c.requires in
    let n = c.on_count-on.ensures in
    let q = c.store_with.ensures in record { holds = rw (n.value, above_words a.times a.a a.b a.s a.v a.t a.o p.1.1.1.0.low c.if-a-eq1.true) at q.holds; upper_bound = omega (arith, q.value) }

pub returns : goal.returns
returns c = let a = c.args in
    let p = c.requires in
    let m = c.on_count-on.ensures in
    let n = c.on_count-before.ensures in
    let x = c.store_all-q.ensures in
    let y = c.store_none-w.ensures in
    let z = c.store_with-2.ensures in record { holds = outside_stored a.times a.a a.b a.s a.v a.t a.o p.1.1.1.0.low (ne_eqb _ _ c.if-a-eq1.false) a.out.now a.at (rw m.value at x.holds) (rw n.value at y.holds) z.holds; upper_bound = omega (arith, x.value, y.value, z.value, m.upper_bound, n.upper_bound) }
