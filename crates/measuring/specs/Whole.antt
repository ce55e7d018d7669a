-- The size of a whole formula and of its tail, constraint by constraint.
use Rattle.std.specs.Prelude.{List, [], ◌∷◌, map, ℕ, ◌+◌}
use Rattle.scope.specs.Kinds.{Constraint, Rule, up_to}
use Rattle.scope.specs.Instance.{Instance}
use Rattle.scope.specs.Score.{event_count, rules}
use Rattle.sizing.specs.declared.Size.{Size}
use Rattle.sizing.specs.Sums.{none, sum}
use Rattle.sizing.specs.Tail.{tail_add}
use Rattle.sizing.specs.Blocks.{starts_size}
use Rattle.measuring.specs.Rules.{rules_size}
use Rattle.measuring.specs.Blocks.{uses_size, durations_size}

module _ (i : Instance) where
  -- the rules of a constraint with its weight
  abbrev pub weighed_rules : Constraint → List (ℕ × Rule)
  weighed_rules c = map (λ r. (c.weight, r)) (rules i c)

  -- the sizes of some constraints
  abbrev pub constraint_size : Constraint → Size
  constraint_size c = rules_size (weighed_rules c)

  unfoldable pub constraints_size : List Constraint → Size
  constraints_size [] = none
  constraints_size (c ∷ cs) = sum (constraint_size c) (constraints_size cs)

  -- the formula before the constraints, and as a whole
  unfoldable pub before_size : Size
  before_size =
      sum (starts_size (event_count i) i.times)
      (sum (uses_size i.times i.events (up_to i.resources)) (durations_size i.times i.events))

  unfoldable pub whole_size : Size
  whole_size = sum before_size (constraints_size i.constraints)

  -- the tail of the size s with the soft units of some constraints more
  unfoldable pub tail_after : ℕ → Size → List Constraint → Size
  tail_after cols s [] = s
  tail_after cols s (c ∷ cs) = tail_after cols (tail_add cols s (constraint_size c).units c.weight) cs

  -- the tail at a bound
  unfoldable pub tail_of : ℕ → Size
  tail_of B = tail_after (B + 1) none i.constraints
