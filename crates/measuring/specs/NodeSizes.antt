-- The size of a list's nodes is that of their gates.
use Rattle.std.specs.Prelude.{List, [], ◌∷◌, ℕ, ◌+◌, length}
use Rattle.scope.specs.Kinds.{Node, some_of, all_of}
use Rattle.sizing.specs.declared.Size.{Size}
use Rattle.sizing.specs.NodeSizes.{node_sizes}

-- how many inputs a node has, and some nodes have in all
abbrev pub inputs : Node → ℕ
inputs (some_of rs) = length rs
inputs (all_of rs) = length rs

unfoldable pub all_inputs : List Node → ℕ
all_inputs [] = 0
all_inputs (n ∷ ns) = inputs n + all_inputs ns

abbrev pub nodes_size : List Node → Size
nodes_size ns = node_sizes (length ns) (all_inputs ns)
