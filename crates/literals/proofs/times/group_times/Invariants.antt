-- `literals::times::group_times` meets its contract. The loop's invariant: the words are those that stay, then the literals of
-- the members passed.
use Prim.Native.Nat.{◌+◌, ◌-◌}
use mathlib.Core.Path.{◌≡◌}
use lib.ListN.{length, take}
use Rattle.tables.specs.Rows.{row_at}
use Rattle.literals.specs.Variables.{literal_at}
use Rattle.literals.proofs.Turns.{Mapped}
use Rattle.literals.proofs.times.group_times.Given as goal

abbrev pub invariant-loop-k : goal.invariant-loop-k
invariant-loop-k l = (l.size ≡ length (row_at l.groups (l.g - 1))) × (length l.out ≡ length l.initial.out) × Mapped (literal_at l.base) (take l.n l.initial.out) (row_at l.groups (l.g - 1)) l.out (l.n + l.k) l.k
