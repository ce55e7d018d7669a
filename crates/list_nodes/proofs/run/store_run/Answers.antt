-- `list_nodes::run::store_run` meets its contract.
use Rattle.list_nodes.proofs.RunNodes.{run-place}
use native.Mathlib.Omega.{arith}
use Rattle.list_nodes.proofs.run.store_run.Goals as goal

pub returns : goal.returns
returns c = let a = c.args in
    let q = c.outputs.ensures in record { holds = q; value = run-place a.first a.n a.out.now a.at (omega arith) q }
