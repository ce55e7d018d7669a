-- `table_lists::row_at` meets its contract. The loop's invariant: the row's first byte is the count, and the list is what
-- the members stored so far and the references still to be read come to.
use Rattle.std.proofs.Common.{◌≡◌, ◌≤◌, length, get_or}
use Rattle.scope.specs.Number.{listed}
use Rattle.number.proofs.laws.Lists.{left_after}
use Rattle.table_lists.proofs.row_at.Given as goal

abbrev pub invariant-loop-i : goal.invariant-loop-i
invariant-loop-i l = (l.count ≤ l.n) × (length l.row ≡ 126) × (get_or l.row 0 0 ≡ l.count) × (listed l.n l.s l.at ≡ left_after 1 l.row l.i l.count l.before l.n l.s l.next)
