use mathlib.Core.Path.{◌≡◌}
use Prim.Native.Nat.{◌-◌, ◌≤◌}
use lib.ListN.{length}
use Rattle.sink.specs.Run.{Todo}
use Rattle.sink.specs.World.{world, step}
use Rattle.list_clauses.proofs.laws.Stored.{LeftNodes, left_lines}
use Rattle.list_clauses.proofs.nodes.write_nodes.Given as goal

abbrev pub invariant-loop-i : goal.invariant-loop-i
invariant-loop-i l = (l.i ≤ l.count) × (length l.text ≡ length l.initial.text) × (length l.words ≡ length l.initial.words) × LeftNodes l.count l.store l.i l.at
    × Todo (step l.job l.model) (left_lines l.count l.store l.i l.at) (left_lines l.count l.store 0 0) (world l.initial.z l.initial.text l.initial.words) (world l.z l.text l.words)

abbrev pub decreases-loop-i : goal.decreases-loop-i
decreases-loop-i l = l.count - l.i
