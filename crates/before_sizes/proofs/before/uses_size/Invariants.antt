-- `before::uses_size` meets its contract. The loop's invariant: the sum, and the uses of the resources still to be looked at, are
-- the whole.
use Prim.Native.Nat.{suc, ◌*◌, ◌-◌}
use mathlib.Core.Path.{◌≡◌}
use mathlib.Core.List.{List}
use Rattle.scope.specs.Kinds.{Event, from, up_to}
use Rattle.sizing.specs.Sums.{sum as together, Within}
use Rattle.measuring.specs.Blocks.{uses_size}
use Rattle.before_sizes.specs.Before.{Users}
use Rattle.before_sizes.proofs.before.uses_size.Given as goal

abbrev pub invariant-loop-i : goal.invariant-loop-i
invariant-loop-i l = Within (l.i * 384125) l.sum
    × ((es : List Event) → Users l.users es
    → uses_size l.times es (up_to l.resources) ≡ together l.sum (uses_size l.times es (from (suc l.i) (l.resources - l.i))))
