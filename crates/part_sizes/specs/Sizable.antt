-- What is known of a constraint that is sized, and its size from that of its first counted list.
use Rattle.std.specs.Prelude.{ℕ, ◌≤◌, ◌≡◌, List, map, length}
use Rattle.scope.specs.Kinds.{Constraint, Listed, Counted, rule}
use Rattle.constraint.specs.declared.kinds.Head.{Head}
use Rattle.constraint.specs.Bounds.{low_of, high_of}
use Rattle.user_table.specs.Filled.{users_at}
use Rattle.list_nodes.specs.Stored.{Fits, counted_in}
use Rattle.sizing.specs.declared.Size.{Size}
use Rattle.sizing.specs.Sums.{Within}
use Rattle.measuring.specs.Rules.{rules_size}

-- the size of some lists of the weight w
abbrev pub lists_size : ℕ → Counted → List Listed → Size
lists_size w c ls = rules_size (map (λ r. (w, r)) (map (rule c) ls))

-- a constraint of an accepted file, with its list in the store
pub record Sizable (durations users groups list : List ℕ) (h : Head) (c : Constraint) : Type 0 where
  pub fits : Fits durations users groups list h c.kind
  pub weight : c.weight ≤ 1000
  pub ordered : low_of c.kind ≤ high_of c.kind
  pub few : length (counted_in durations (users_at users) groups h c.kind).lists ≤ 125
  pub some : 1 ≤ length (counted_in durations (users_at users) groups h c.kind).lists

-- the size of what is counted, far below 2 ^ 64
pub record CountedSized (w : ℕ) (c : Counted) (z : Size) : Type 0 where
  pub eq : z ≡ lists_size w c c.lists
  pub within : Within 268435456 z
  pub few : z.units ≤ 31875
