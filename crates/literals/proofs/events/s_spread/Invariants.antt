-- `literals::events::s_spread` meets its contract. The loop's invariant: the words are the literals of the events passed, as
-- many for each as the group has members.
use Prim.Native.Nat.{◌-◌, ◌*◌}
use mathlib.Core.Path.{◌≡◌}
use mathlib.Core.List.{map}
use lib.ListN.{length}
use Rattle.tables.specs.Rows.{row_at}
use Rattle.literals.specs.Variables.{in_block}
use Rattle.literals.proofs.Turns.{Flattened}
use Rattle.literals.proofs.events.s_spread.Given as goal

abbrev pub invariant-loop-k : goal.invariant-loop-k
invariant-loop-k l = (l.at ≡ l.k * length (row_at l.groups (l.g - 1))) × (length l.out ≡ length l.initial.out) × Flattened (λ e. map (in_block l.times l.starts e) (row_at l.groups (l.g - 1))) l.events l.out l.at l.k
