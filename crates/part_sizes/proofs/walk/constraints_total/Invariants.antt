-- `walk::constraints_total` meets its contract. The loop's invariant: the total, and what the constraints still to be read come to,
-- are the whole.
use Prim.Native.Nat.{ℕ}
use mathlib.Core.List.{List}
use Rattle.part_sizes.specs.Walked.{Walkable, Tabled, TotalWithin}
use Rattle.part_sizes.proofs.laws.Walked.{Part}
use Rattle.part_sizes.proofs.walk.constraints_total.Given as goal

abbrev pub invariant-loop-i : goal.invariant-loop-i
invariant-loop-i l = Walkable l.file l.durations l.users l.groups l.list l.store l.head l.columns l.initial.total.formula
    × TotalWithin l.i l.total
    × ((te : List ℕ) → Tabled l.file l.durations te l.users l.groups l.head → Part l.file l.durations te l.groups l.head l.columns l.initial.total.formula l.i l.next l.total)
