-- `chain_lists::or_chain::store_more` meets its contract. The loop's invariant: the words stored, continued by the ORs that are left, are the whole.
use Rattle.chain_lists.specs.Gap.{stepping, more_gates}
use Rattle.chain_lists.proofs.Ahead.{Ahead}
use Rattle.literals.specs.NodeWords.{nodes_words}
use lib.ListN.{length, take}
use mathlib.Core.List.{◌++◌}
use mathlib.Core.Path.{◌≡◌}
use Prim.Native.Nat.{◌+◌, ◌-◌, ◌*◌, ◌≤◌}
use Rattle.chain_lists.proofs.or_chain.store_more.Given as goal

abbrev pub invariant-loop-q : goal.invariant-loop-q
invariant-loop-q l = (l.y + (l.p + l.n - l.q) ≤ l.x + l.n) × (l.k ≡ l.at + 4 * (l.q - l.p)) × (length l.out ≡ length l.initial.out)
    × Ahead (take l.at l.initial.out ++ nodes_words (l.p + 1) (more_gates l.p (stepping l.up l.x l.n))) (l.q + 1) (more_gates l.q (stepping l.up l.y (l.p + l.n - l.q))) l.out l.k
