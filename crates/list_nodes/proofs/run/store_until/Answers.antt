-- `list_nodes::run::store_until` meets its contract.
use Rattle.list_nodes.proofs.RunNodes.{until_stored}
use lib.ListN.{length-set}
use native.Mathlib.Omega.{arith}
use Rattle.list_nodes.proofs.run.store_until.Goals as goal

pub bounds-out-at-2 : goal.bounds-out-at-2
bounds-out-at-2 c = simp length-set (omega arith)

pub negated-last-requires : goal.negated-last-requires
negated-last-requires c = (simp length-set (omega arith), omega arith)

pub bounds-out-last : goal.bounds-out-last
bounds-out-last c = omega (arith, simp length-set at c.out-1.given)

pub bounds-out-last-2 : goal.bounds-out-last-2
bounds-out-last-2 c = simp length-set (omega (arith, simp length-set at c.out-1.given))

pub shape_of-out : goal.shape_of-out
shape_of-out c = simp length-set (simp length-set at c.out-1.given)

pub returns : goal.returns
returns c = let a = c.args in
    let q = c.negated-last.ensures in record { holds = until_stored a.first a.n a.out.now a.at a.x a.o q.holds (omega arith) (omega (arith, simp length-set at c.out-1.given)); value = omega (arith, q.value) }
