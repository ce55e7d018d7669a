-- `chain_lists::carried::carry` meets its contract.
use native.Mathlib.Omega.{arith}
use Rattle.chain_lists.proofs.ReachNodes.{went_carried}
use Rattle.chain_lists.proofs.carried.carry.Goals as goal

pub returns : goal.returns
returns c = let a = c.args in
    let x = c.store_until-m.ensures in
    let z = c.store_with-at.ensures in
    went_carried a.y a.s a.t a.w a.out.now x.holds z.holds (omega (arith, x.value, z.value))
