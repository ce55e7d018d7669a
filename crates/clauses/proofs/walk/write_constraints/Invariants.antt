-- `walk::write_constraints` meets its contract. The loop's invariant: the items of the constraints that are left, and the offset
-- from which they stand.
use Prim.Native.Nat.{◌-◌, ◌≤◌}
use mathlib.Core.Path.{◌≡◌, refl}
use native.Mathlib.Omega.{arith}
use lib.ListN.{length}
use Rattle.constraint.proofs.laws.Walk.{walk_refused}
use Rattle.sink.specs.World.{world, step}
use Rattle.instance.proofs.laws.Laws.{groups_most}
use Rattle.clauses.proofs.laws.Position.{ran-placed}
use Rattle.clauses.specs.Walked.{Walkable}
use Rattle.clauses.proofs.laws.Walked.{walkable-kept, Part, part_start, part_read, part_fits, part_room, part_next, part_end}
use borrow.Author.Rules.{rules}
use Rattle.clauses.proofs.walk.write_constraints.Given as goal

abbrev pub invariant-loop-i : goal.invariant-loop-i
invariant-loop-i l = (length l.text ≡ length l.initial.text) × (length l.words ≡ length l.initial.words) × (l.z.at ≤ 9223372036854775807)
    × Walkable l.file l.durations l.users l.groups l.list l.head l.first
    × Part (step l.job l.model) l.file l.durations l.users l.groups l.head l.first l.i l.next l.v (world l.initial.z l.initial.text l.initial.words) (world l.z l.text l.words)
    × (length l.store ≡ 34816)
