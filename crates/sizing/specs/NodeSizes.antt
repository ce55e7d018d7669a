-- The size of a list's nodes, whatever the kind: one variable each, and k + 1 clauses with 3k + 1 words for k inputs.
use Rattle.std.specs.Prelude.{ℕ, ◌+◌, ◌*◌}
use Rattle.sizing.specs.declared.Size.{Size}

-- n nodes with k inputs in all
unfoldable pub node_sizes : ℕ → ℕ → Size
node_sizes n k = record { variables = n; clauses = k + n; words = 3 * k + n; units = 0; weight = 0 }
