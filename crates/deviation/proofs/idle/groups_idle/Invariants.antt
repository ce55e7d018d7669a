-- `deviation::idle::groups_idle` meets its contract. The sum so far and the sum over the groups left are the whole.
use Prim.Native.Nat.{◌+◌, ◌*◌, ◌≤◌, ◌-◌}
use mathlib.Core.Path.{◌≡◌}
use lib.ListN.{drop}
use Rattle.scope.specs.Idle.{kept_after}
use Rattle.number.specs.Lists.{leading}
use Rattle.tables.specs.Rows.{row_at}
use Rattle.timetable.specs.Bits.{marks}
use Rattle.deviation.specs.Sums.{total}
use Rattle.deviation.proofs.idle.groups_idle.Given as goal

abbrev pub invariant-loop-k : goal.invariant-loop-k
invariant-loop-k l = (l.sum ≤ 125 * l.k) × (l.sum + total (λ g. (kept_after (marks l.bytes l.base (row_at l.groups (g - 1)))).idle) (drop l.k (leading l.n l.list)) ≡ total (λ g. (kept_after (marks l.bytes l.base (row_at l.groups (g - 1)))).idle) (leading l.n l.list))
