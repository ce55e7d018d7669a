-- `table_lists::groups_at` meets its contract. The loop's invariant: the groups are the rows of the table so far, and those
-- still to be read.
use Rattle.std.proofs.Common.{◌≡◌, ◌-◌, ◌≤◌, length}
use Rattle.scope.specs.Parsed.{repeat}
use Rattle.scope.specs.Number.{listed}
use Rattle.scope.specs.Instance.{groups_at}
use Rattle.parsing.proofs.laws.Parsing.{before}
use Rattle.tables.specs.Rows.{rows}
use Rattle.table_lists.proofs.groups_at.Given as goal

abbrev pub invariant-loop-g : goal.invariant-loop-g
invariant-loop-g l = (l.count ≤ 1024)
    × (length l.table ≡ length l.initial.table)
    × (groups_at 1024 l.times l.s l.at ≡ before (rows l.table l.g) (repeat (l.count - l.g) (listed l.times l.s) l.next))
