-- `resource_uses::count_uses` meets its contract. The counts are those of the first e events.
use mathlib.Core.Path.{◌≡◌}
use lib.ListN.{length}
use Rattle.resource_uses.specs.Uses.{UsesOf}
use Rattle.resource_uses.proofs.count_uses.Given as goal

abbrev pub invariant-loop-e : goal.invariant-loop-e
invariant-loop-e l = (length l.uses ≡ length l.initial.uses) × UsesOf l.times l.bytes l.resources l.e l.uses
