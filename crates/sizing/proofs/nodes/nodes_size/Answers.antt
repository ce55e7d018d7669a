-- `nodes::nodes_size` meets its contract.
-- Assumes nothing.
use Rattle.sizing.specs.NodeSizes.{node_sizes}
use Rattle.sizing.specs.Sums.{none}
use Rattle.sizing.proofs.nodes.nodes_size.Goals as goal

pub returns : goal.returns
unfolding node_sizes none
returns c = rw c.nothing.ensures
