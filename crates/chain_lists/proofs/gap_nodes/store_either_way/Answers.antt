-- `chain_lists::gap_nodes::store_either_way` meets its contract.
use Rattle.chain_lists.proofs.GapNodes.{either_stored}
use lib.ListN.{length-set}
use native.Mathlib.Omega.{arith}
use Rattle.chain_lists.proofs.gap_nodes.store_either_way.Goals as goal

pub store_run-a-requires : goal.store_run-a-requires
store_run-a-requires c = (simp length-set (omega arith), omega arith)

pub store_run-b-requires : goal.store_run-b-requires
store_run-b-requires c = (omega (arith, simp length-set at c.out-1.given), omega arith)

pub store_run-c-requires : goal.store_run-c-requires
store_run-c-requires c = (omega (arith, c.out-2-1.given, simp length-set at c.out-1.given), omega arith)

pub store_run-d-requires : goal.store_run-d-requires
store_run-d-requires c = (omega (arith, c.out-3-1.given, c.out-2-1.given, simp length-set at c.out-1.given), omega arith)

pub bounds-out-d : goal.bounds-out-d
bounds-out-d c = omega (arith, c.out-4-1.given, c.out-3-1.given, c.out-2-1.given, simp length-set at c.out-1.given)

pub shape_of-out : goal.shape_of-out
shape_of-out c = simp length-set (omega (arith, c.out-4-1.given, c.out-3-1.given, c.out-2-1.given, simp length-set at c.out-1.given))

pub returns : goal.returns
returns c = let a = c.args in record { holds = either_stored a.times a.y a.early a.late a.v a.q c.requires.1.0 c.saturating_sub-soon.result c.saturating_sub-soon.ensures a.out.now a.at (omega arith) c.store_run-a.ensures.holds c.store_run-b.ensures.holds c.store_run-c.ensures.holds c.store_run-d.ensures.holds (omega (arith, c.out-4-1.given, c.out-3-1.given, c.out-2-1.given, simp length-set at c.out-1.given)); value = omega arith }
