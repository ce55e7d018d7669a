-- The sizes of rules: the nodes of a counted list, then the counter over its members and its bounds.
use Rattle.std.specs.Prelude.{List, [], ◌∷◌, ℕ, length}
use Rattle.scope.specs.Kinds.{Rule}
use Rattle.sizing.specs.declared.Size.{Size}
use Rattle.sizing.specs.Sums.{none, sum}
use Rattle.sizing.specs.Counts.{count_size}
use Rattle.measuring.specs.NodeSizes.{nodes_size}

-- a rule of the weight w; rules with their weights
unfoldable pub rule_size : ℕ → Rule → Size
rule_size w r = sum (nodes_size r.list.nodes) (count_size w r.lo r.hi r.zero_free (length r.list.members))

unfoldable pub rules_size : List (ℕ × Rule) → Size
rules_size [] = none
rules_size (r ∷ rs) = sum (rule_size r.0 r.1) (rules_size rs)
