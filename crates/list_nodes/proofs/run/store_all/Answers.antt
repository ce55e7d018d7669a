-- `list_nodes::run::store_all` meets its contract.
use Rattle.list_nodes.proofs.RunNodes.{all_stored}
use lib.ListN.{length-set}
use native.Mathlib.Omega.{arith}
use Rattle.list_nodes.proofs.run.store_all.Goals as goal

pub negated-last-requires : goal.negated-last-requires
negated-last-requires c = (simp length-set (omega arith), omega arith)

pub bounds-out-last : goal.bounds-out-last
bounds-out-last c = omega (arith, simp length-set at c.out-1.given)

pub shape_of-out : goal.shape_of-out
shape_of-out c = simp length-set (simp length-set at c.out-1.given)

pub returns : goal.returns
returns c = let a = c.args in
    let q = c.negated-last.ensures in record { holds = all_stored a.first a.n a.out.now a.at a.o q.holds (omega arith) (omega (arith, simp length-set at c.out-1.given)); value = omega (arith, q.value) }
