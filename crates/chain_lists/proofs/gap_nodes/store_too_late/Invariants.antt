-- `chain_lists::gap_nodes::store_too_late` meets its contract. The loop's invariant: the words stored, continued by the times that are left, are the whole.
use Rattle.chain_lists.specs.Gap.{late_gate, late_gates}
use Rattle.chain_lists.proofs.Ahead.{Ahead}
use Rattle.scope.specs.Kinds.{from}
use Rattle.literals.specs.NodeWords.{nodes_words}
use lib.ListN.{length, take}
use mathlib.Core.List.{◌++◌, map}
use mathlib.Core.Path.{◌≡◌}
use Prim.Native.Nat.{◌+◌, ◌-◌, ◌*◌, ◌≤◌}
use Rattle.chain_lists.proofs.gap_nodes.store_too_late.Given as goal

abbrev pub invariant-loop-t : goal.invariant-loop-t
invariant-loop-t l = (l.k ≡ l.at + 4 * (l.t - 1)) × (length l.out ≡ length l.initial.out)
    × Ahead (take l.at l.initial.out ++ nodes_words l.q (late_gates l.lo l.hi l.late l.v l.q)) (l.q + (l.t - 1)) (map (late_gate l.lo l.hi l.v l.q) (from l.t (l.late + 1 - l.t))) l.out l.k
