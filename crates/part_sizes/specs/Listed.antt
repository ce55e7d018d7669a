-- The size of a counted list from what the store holds of it: how many nodes, where its members begin and where they end.
use Rattle.std.specs.Prelude.{ℕ, ◌-◌, ◌*◌, ◌≤◌, ◌≡◌}
use Rattle.scope.specs.Kinds.{Listed, Counted, rule}
use Rattle.list_nodes.specs.declared.filled.Filled.{Filled}
use Rattle.constraint.specs.declared.kinds.Bounds.{Bounds}
use Rattle.sizing.specs.declared.Size.{Size}
use Rattle.sizing.specs.Sums.{sum, Within}
use Rattle.sizing.specs.NodeSizes.{node_sizes}
use Rattle.sizing.specs.Counts.{list_size}
use Rattle.measuring.specs.Rules.{rule_size}

-- the size of a filled list of the weight w, by its bounds
abbrev pub filled_size : ℕ → Bounds → Filled → Size
filled_size w b f =
    sum (node_sizes f.nodes (f.at - 2 * f.nodes)) (list_size w b.lo b.hi b.free (f.end - f.at))

-- a list that can be sized
pub record Measurable (w : ℕ) (b : Bounds) (f : Filled) : Type 0 where
  pub weight : w ≤ 1000
  pub nodes : 2 * f.nodes ≤ f.at
  pub ahead : f.at ≤ f.end
  pub room : f.end ≤ 34816
  pub short : f.end - f.at ≤ 255
  pub ordered : b.lo ≤ b.hi
  pub reached : b.lo ≤ f.end - f.at

-- the size of one list, far below 2 ^ 64
pub record ListSized (w : ℕ) (c : Counted) (l : Listed) (z : Size) : Type 0 where
  pub eq : z ≡ rule_size w (rule c l)
  pub within : Within 1454651 z
  pub few : z.units ≤ 255
