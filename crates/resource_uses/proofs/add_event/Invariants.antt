-- `resource_uses::add_event` meets its contract. The counts of the first k resources of the row are added; they stay far below the limit of their width.
use Prim.Native.Nat.{◌*◌}
use lib.ListN.{take}
use Rattle.tables.specs.Rows.{row_at}
use Rattle.resource_uses.specs.Uses.{EventAdded}
use Rattle.resource_uses.proofs.add_event.Given as goal

abbrev pub invariant-loop-k : goal.invariant-loop-k
invariant-loop-k l = EventAdded l.times l.initial.uses l.bytes (l.e * l.times) (take l.k (row_at l.resources l.e)) l.uses
