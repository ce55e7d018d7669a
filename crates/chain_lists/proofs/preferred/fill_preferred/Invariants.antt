-- `chain_lists::preferred::fill_preferred` meets its contract. The loop's invariant: what is stored, continued by what the times that are left add, is the whole list.
use Rattle.chain_lists.proofs.Walked.{Bounded, Left, rest_of}
use Rattle.literals.proofs.laws.Passed.{Passed}
use Rattle.tables.specs.Rows.{row_at}
use Rattle.scope.specs.Kinds.{reached, up_to}
use lib.ListN.{length, get_or}
use mathlib.Core.Path.{◌≡◌}
use Prim.Native.Nat.{◌-◌, ◌≤◌}
use Rattle.chain_lists.proofs.preferred.fill_preferred.Given as goal

abbrev pub invariant-loop-passed : goal.invariant-loop-passed
invariant-loop-passed l = (l.k ≤ l.passed) × (length l.out ≡ 34816) × (length l.members ≡ 125) × Bounded l.v l.passed l.w × Passed l.times (row_at l.groups l.row) l.k l.passed
    × Left l.y l.s l.v (reached (get_or l.durations (l.event - 1) 0) (row_at l.groups l.row) 0 (up_to l.times)) (rest_of l.times (get_or l.durations (l.event - 1) 0) (row_at l.groups l.row) l.w.near l.passed) l.w l.members l.out
