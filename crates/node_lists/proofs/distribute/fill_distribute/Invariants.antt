-- `node_lists::distribute::fill_distribute` meets its contract. The loop's invariant: the nodes of the times passed.
use Rattle.node_lists.proofs.LengthNodes.{TimesTo}
use Rattle.node_lists.specs.Lengths.{going_gates, length_gate}
use Rattle.literals.specs.Variables.{base_of}
use lib.ListN.{length}
use mathlib.Core.List.{[], ◌∷◌}
use mathlib.Core.Path.{◌≡◌}
use Prim.Native.Nat.{◌+◌, ◌-◌, ◌*◌, ◌≤◌}
use Rattle.node_lists.proofs.distribute.fill_distribute.Given as goal

abbrev pub invariant-loop-t : goal.invariant-loop-t
invariant-loop-t l = (l.at ≤ 4 * l.times + 129 * (l.t - 1)) × (length l.out ≡ 34816)
    × TimesTo (going_gates l.times (base_of 0 l.times l.event) l.s) (λ t. length_gate l.times l.n l.s l.v t ∷ []) l.v l.out l.at (l.t - 1)
