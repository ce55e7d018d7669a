-- The sizes of the formula's blocks before the constraints are those of their items: starts, uses and durations.
use Rattle.std.specs.Prelude.{false, List, [], ◌∷◌, ℕ, length}
use Rattle.scope.specs.Kinds.{Event, users}
use Rattle.sizing.specs.declared.Size.{Size}
use Rattle.sizing.specs.Sums.{none, sum}
use Rattle.sizing.specs.Blocks.{use_size}
use Rattle.sizing.specs.Counts.{list_size}

-- X of each of some resources
unfoldable pub uses_size : ℕ → List Event → List ℕ → Size
uses_size T es [] = none
uses_size T es (r ∷ rs) = sum (use_size T (length (users r es))) (uses_size T es rs)

-- the counted times of some events
unfoldable pub durations_size : ℕ → List Event → Size
durations_size T [] = none
durations_size T (v ∷ vs) = sum (list_size 0 v.duration v.duration false T) (durations_size T vs)
