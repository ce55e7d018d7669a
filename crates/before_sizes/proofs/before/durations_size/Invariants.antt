-- `before::durations_size` meets its contract. The loop's invariant: the sum is that of the events so far.
use Prim.Native.Nat.{ℕ, ◌*◌}
use mathlib.Core.Path.{◌≡◌}
use mathlib.Core.List.{List}
use Rattle.tables.specs.Rows.{events_of}
use Rattle.sizing.specs.Sums.{Within}
use Rattle.measuring.specs.Blocks.{durations_size}
use Rattle.before_sizes.proofs.before.durations_size.Given as goal

abbrev pub invariant-loop-e : goal.invariant-loop-e
invariant-loop-e l = Within (l.e * 1225275) l.sum × ((te : List ℕ) → l.sum ≡ durations_size l.times (events_of l.durations te l.e))
