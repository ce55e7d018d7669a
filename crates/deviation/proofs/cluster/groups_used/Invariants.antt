-- `deviation::cluster::groups_used` meets its contract. The sum so far and the sum over the groups left are the whole.
use Prim.Native.Nat.{◌+◌, ◌≤◌, ◌-◌}
use mathlib.Core.Path.{◌≡◌}
use mathlib.Core.Bool.{cond}
use lib.ListN.{drop}
use Rattle.scope.specs.Score.{any}
use Rattle.number.specs.Lists.{leading}
use Rattle.tables.specs.Rows.{row_at}
use Rattle.timetable.specs.Bits.{marks}
use Rattle.deviation.specs.Sums.{total}
use Rattle.deviation.proofs.cluster.groups_used.Given as goal

abbrev pub invariant-loop-k : goal.invariant-loop-k
invariant-loop-k l = (l.sum ≤ l.k) × (l.sum + total (λ g. cond (any (marks l.bytes l.base (row_at l.groups (g - 1)))) 1 0) (drop l.k (leading l.n l.list)) ≡ total (λ g. cond (any (marks l.bytes l.base (row_at l.groups (g - 1)))) 1 0) (leading l.n l.list))
