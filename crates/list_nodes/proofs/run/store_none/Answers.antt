-- `list_nodes::run::store_none` meets its contract.
use Rattle.list_nodes.proofs.RunNodes.{none_stored}
use lib.ListN.{length-set}
use native.Mathlib.Omega.{arith}
use Rattle.list_nodes.proofs.run.store_none.Goals as goal

pub negated-last-requires : goal.negated-last-requires
negated-last-requires c = (simp length-set (omega arith), omega arith)

pub bounds-out-last : goal.bounds-out-last
bounds-out-last c = omega (arith, simp length-set at c.out-1.given)

pub bounds-out-last-2 : goal.bounds-out-last-2
bounds-out-last-2 c = simp length-set (omega (arith, simp length-set at c.out-1.given))

pub shape_of-out : goal.shape_of-out
shape_of-out c = simp length-set (simp length-set at c.out-1.given)

pub returns : goal.returns
returns c = let a = c.args in
    let q = c.negated-last.ensures in record { holds = none_stored a.first a.n a.out.now a.at a.q q.holds (omega arith) (omega (arith, simp length-set at c.out-1.given)); value = omega (arith, q.value) }
