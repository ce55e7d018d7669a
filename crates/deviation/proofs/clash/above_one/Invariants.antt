-- `deviation::clash::above_one` meets its contract. The sum so far and the sum over the places left are the whole.
use Prim.Native.Nat.{◌+◌, ◌*◌, ◌≤◌, ◌-◌}
use mathlib.Core.Path.{◌≡◌}
use lib.ListN.{get_or}
use Rattle.scope.specs.Kinds.{from, up_to}
use Rattle.deviation.specs.Sums.{total}
use Rattle.deviation.proofs.clash.above_one.Given as goal

abbrev pub invariant-loop-i : goal.invariant-loop-i
invariant-loop-i l = (l.sum ≤ 65535 * l.i) × (l.sum + total (λ t. get_or l.counts (l.base + (t - 1)) 0 - 1) (from (l.i + 1) (l.n - l.i)) ≡ total (λ t. get_or l.counts (l.base + (t - 1)) 0 - 1) (up_to l.n))
