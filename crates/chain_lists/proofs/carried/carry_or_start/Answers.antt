-- `chain_lists::carried::carry_or_start` meets its contract.
use native.Mathlib.Omega.{arith}
use Rattle.chain_lists.specs.Reach.{reaches_gates, last_variable}
use Rattle.chain_lists.proofs.ReachNodes.{went_both}
use Rattle.chain_lists.proofs.carried.carry_or_start.Goals as goal

pub store_either-at-requires : goal.store_either-at-requires
unfolding reaches_gates last_variable
store_either-at-requires c = let p = c.requires.1 in
    let q = c.carry-c.ensures in
    (omega (arith, c.out-1.given, p.words, q.words), (p.starts, (omega (arith, p.next, q.last), omega (arith, p.next, q.next))))

pub overflow_add-result : goal.overflow_add-result
unfolding reaches_gates
overflow_add-result c = omega (arith, c.requires.1.next, c.carry-c.ensures.next)

pub returns : goal.returns
returns c = let a = c.args in
    let q = c.store_either-at.ensures in
    went_both a.y a.s a.t a.w a.out.now c.carry-c.ensures q.holds q.value
