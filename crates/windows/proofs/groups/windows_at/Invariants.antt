-- `windows::groups::windows_at` meets its contract. The loop's invariant: the windows are the rows of the table so far, after those of
-- the groups, and those still to be read.
use Rattle.std.proofs.Common.{◌≡◌, ◌+◌, ◌-◌, ◌≤◌, length}
use Rattle.scope.specs.Parsed.{repeat}
use Rattle.scope.specs.Calendar.{window_at, windows_at}
use Rattle.parsing.proofs.laws.Parsing.{before}
use Rattle.tables.specs.Rows.{rows}
use Rattle.windows.specs.Times.{days_in}
use Rattle.windows.proofs.groups.windows_at.Given as goal

abbrev pub invariant-loop-w : goal.invariant-loop-w
invariant-loop-w l = (l.count ≤ 1024)
    × (length l.table ≡ length l.initial.table)
    × (before (rows l.initial.table l.first) (windows_at (days_in l.s) l.s l.at) ≡ before (rows l.table (l.first + l.w)) (repeat (l.count - l.w) (window_at (days_in l.s) l.s) l.next))
