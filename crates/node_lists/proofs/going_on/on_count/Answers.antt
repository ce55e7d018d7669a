-- `node_lists::going_on::on_count` meets its contract.
use Rattle.node_lists.specs.Lengths.{on_count}
use native.Mathlib.Omega.{arith}
use Rattle.node_lists.proofs.going_on.on_count.Goals as goal

pub returns : goal.returns
unfolding on_count
returns c = record { value = omega arith; upper_bound = omega arith }
