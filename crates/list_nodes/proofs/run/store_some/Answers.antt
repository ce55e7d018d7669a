-- `list_nodes::run::store_some` meets its contract.
use Rattle.list_nodes.proofs.RunNodes.{some_stored}
use lib.ListN.{length-set}
use native.Mathlib.Omega.{arith}
use Rattle.list_nodes.proofs.run.store_some.Goals as goal

pub store_run-last-requires : goal.store_run-last-requires
store_run-last-requires c = (simp length-set (omega arith), omega arith)

pub bounds-out-last : goal.bounds-out-last
bounds-out-last c = omega (arith, simp length-set at c.out-1.given)

pub shape_of-out : goal.shape_of-out
shape_of-out c = simp length-set (simp length-set at c.out-1.given)

pub returns : goal.returns
returns c = let a = c.args in
    let q = c.store_run-last.ensures in record { holds = some_stored a.first a.n a.out.now a.at a.o q.holds (omega arith) (omega (arith, simp length-set at c.out-1.given)); value = omega (arith, q.value) }
