-- `deviation::preferred::flag_outside` meets its contract. The flags of the members passed are 0, the others are as they were.
use mathlib.Core.Path.{◌≡◌}
use lib.ListN.{length}
use Rattle.tables.specs.Rows.{row_at}
use Rattle.deviation.proofs.laws.Held.{Cleared}
use Rattle.deviation.proofs.preferred.flag_outside.Given as goal

abbrev pub invariant-loop-k : goal.invariant-loop-k
invariant-loop-k l = (length l.flags ≡ 126) × Cleared (row_at l.groups l.g) l.k l.flags
