-- `deviation::spread::ones_of_events` meets its contract. The sum so far and the sum over the events left are the whole.
use Prim.Native.Nat.{◌+◌, ◌*◌, ◌≤◌, ◌-◌}
use mathlib.Core.Path.{◌≡◌}
use lib.ListN.{drop}
use Rattle.scope.specs.Score.{trues}
use Rattle.number.specs.Lists.{leading}
use Rattle.tables.specs.Rows.{row_at}
use Rattle.timetable.specs.Bits.{marks}
use Rattle.deviation.specs.Sums.{total}
use Rattle.deviation.proofs.spread.ones_of_events.Given as goal

abbrev pub invariant-loop-k : goal.invariant-loop-k
invariant-loop-k l = (l.sum ≤ 125 * l.k) × (l.sum + total (λ e. trues (marks l.bytes (l.base + (e - 1) * l.times) (row_at l.groups l.g))) (drop l.k (leading l.n l.list)) ≡ total (λ e. trues (marks l.bytes (l.base + (e - 1) * l.times) (row_at l.groups l.g))) (leading l.n l.list))
