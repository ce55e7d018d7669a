-- `table_lists::events_at` meets its contract. The loop's invariant: the events are those of the tables so far, and those
-- still to be read.
use Rattle.std.proofs.Common.{◌≡◌, ◌-◌, length}
use Rattle.scope.specs.Parsed.{repeat}
use Rattle.scope.specs.Instance.{event_at}
use Rattle.parsing.proofs.laws.Parsing.{before}
use Rattle.tables.specs.Rows.{events_of}
use Rattle.table_lists.proofs.events_at.Given as goal

abbrev pub invariant-loop-e : goal.invariant-loop-e
invariant-loop-e l = (length l.durations ≡ 1024)
    × (length l.table ≡ 129024)
    × (repeat l.count (event_at l.times l.resources l.s) l.at ≡ before (events_of l.durations l.table l.e) (repeat (l.count - l.e) (event_at l.times l.resources l.s) l.next))
