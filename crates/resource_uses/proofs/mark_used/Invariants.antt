-- `resource_uses::mark_used` meets its contract. The bytes before k are marked.
use mathlib.Core.Path.{◌≡◌}
use lib.ListN.{length}
use Rattle.resource_uses.proofs.laws.Uses.{MarkedTo}
use Rattle.resource_uses.proofs.mark_used.Given as goal

abbrev pub invariant-loop-k : goal.invariant-loop-k
invariant-loop-k l = (length l.used ≡ length l.uses) × MarkedTo l.uses l.used l.k
