-- `node_lists::lengths::fill_lengths` meets its contract. The loop's invariant: the nodes of the times passed.
use Rattle.node_lists.proofs.LengthNodes.{TimesTo}
use Rattle.node_lists.proofs.laws.Lengths.{first_of}
use Rattle.node_lists.specs.Lengths.{going_gates, outside_gates}
use Rattle.literals.specs.Variables.{base_of}
use lib.ListN.{length}
use mathlib.Core.Path.{◌≡◌}
use Prim.Native.Nat.{◌+◌, ◌-◌, ◌*◌, ◌≤◌}
use Rattle.node_lists.proofs.lengths.fill_lengths.Given as goal

abbrev pub invariant-loop-t : goal.invariant-loop-t
invariant-loop-t l = (l.o ≡ first_of l.times l.v l.step l.t) × (l.o ≤ l.v + l.times + 3 * (l.t - 1)) × (l.at ≤ 4 * l.times + 260 * (l.t - 1)) × (length l.out ≡ 34816)
    × TimesTo (going_gates l.times (base_of 0 l.times l.event) l.s) (λ t. outside_gates l.times l.a l.b l.s l.v t (first_of l.times l.v l.step t)) l.v l.out l.at (l.t - 1)
