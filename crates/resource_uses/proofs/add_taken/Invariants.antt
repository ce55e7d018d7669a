-- `resource_uses::add_taken` meets its contract. The counts of the times before t have one more for each byte 1.
use Rattle.resource_uses.specs.Uses.{RowAdded}
use Rattle.resource_uses.proofs.add_taken.Given as goal

abbrev pub invariant-loop-t : goal.invariant-loop-t
invariant-loop-t l = RowAdded l.initial.uses l.bytes l.base l.y l.t l.uses
