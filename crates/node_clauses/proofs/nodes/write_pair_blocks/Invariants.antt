use mathlib.Core.List.{map}
use Prim.Native.Nat.{◌-◌, ◌≤◌}
use lib.ListN.{length, drop}
use Rattle.scope.specs.Cnf.{opp, pairs}
use Rattle.sink.specs.Lines.{clause_line}
use Rattle.sink.specs.Run.{Todo}
use Rattle.sink.specs.World.{world, step}
use Rattle.node_clauses.proofs.nodes.write_pair_blocks.Given as goal

abbrev pub invariant-loop-i : goal.invariant-loop-i
invariant-loop-i l = (l.i ≤ length l.lits)
    × Todo (step l.job l.model) (map clause_line (pairs (map opp (drop l.i l.lits)) (l.last - 2147483648))) (map clause_line (pairs (map opp l.lits) (l.last - 2147483648))) (world l.initial.z l.initial.text l.initial.words) (world l.z l.text l.words)

abbrev pub decreases-loop-i : goal.decreases-loop-i
decreases-loop-i l = length l.lits - l.i
