use mathlib.Core.List.{map, flat_map}
use Prim.Native.Nat.{◌+◌, ◌-◌, ◌*◌, ◌≤◌}
use lib.ListN.{length, drop}
use Rattle.scope.specs.Cnf.{opp, pairs}
use Rattle.scope.specs.Text.{line}
use Rattle.sink.specs.Run.{out, put, Todo}
use Rattle.node_text.proofs.pairs_text.Given as goal

abbrev pub invariant-loop-l : goal.invariant-loop-l
invariant-loop-l l = (l.p + 28 * (length l.lits - l.l-index) ≤ length l.initial.text)
    × Todo put (flat_map (line l.top) (pairs (map opp (drop l.l-index l.lits)) l.q)) (flat_map (line l.top) (pairs (map opp l.lits) l.q)) (out l.at l.initial.text) (out l.p l.text)
