-- `chain_lists::gap_nodes::store_too_soon` meets its contract. The loop's invariant: the words stored, continued by the times that are left, are the whole.
use Rattle.chain_lists.specs.Gap.{soon_gate, soon_gates}
use Rattle.chain_lists.proofs.Ahead.{Ahead}
use Rattle.scope.specs.Kinds.{from}
use Rattle.literals.specs.NodeWords.{nodes_words}
use lib.ListN.{length, take}
use mathlib.Core.List.{◌++◌, map}
use mathlib.Core.Path.{◌≡◌}
use Prim.Native.Nat.{◌+◌, ◌-◌, ◌*◌, ◌≤◌}
use Rattle.chain_lists.proofs.gap_nodes.store_too_soon.Given as goal

abbrev pub invariant-loop-t : goal.invariant-loop-t
invariant-loop-t l = (l.t ≤ l.early + 2) × (l.k ≡ l.at + 4 * (l.t - 2)) × (length l.out ≡ length l.initial.out)
    × Ahead (take l.at l.initial.out ++ nodes_words (l.v + l.early) (soon_gates l.y l.early l.v)) (l.v + l.early + (l.t - 2)) (map (soon_gate l.y l.v) (from l.t (l.early + 1 - l.t))) l.out l.k
