use mathlib.Core.List.{flat_map}
use Prim.Native.Nat.{◌+◌, ◌-◌, ◌*◌, ◌≤◌}
use lib.ListN.{length, drop}
use Rattle.scope.specs.Text.{literal_text}
use Rattle.sink.specs.Run.{out, put, Todo}
use Rattle.node_text.proofs.long_text.Given as goal

abbrev pub invariant-loop-l : goal.invariant-loop-l
invariant-loop-l l = (l.p + 9 * (length l.lits - l.l-index) + 11 ≤ length l.initial.text)
    × Todo put (flat_map literal_text (drop l.l-index l.lits)) (flat_map literal_text l.lits) (out l.initial.p l.initial.text) (out l.p l.text)
