-- `list_nodes::node::store_words` meets its contract. The loop's invariant: the words are those that stay, then those of the row that were passed.
use Rattle.literals.specs.Words.{Holds}
use lib.ListN.{length, take, drop}
use mathlib.Core.List.{◌++◌}
use mathlib.Core.Path.{◌≡◌}
use Prim.Native.Nat.{◌+◌, ◌-◌, ◌≤◌}
use Rattle.list_nodes.proofs.node.store_words.Given as goal

abbrev pub invariant-loop-k : goal.invariant-loop-k
invariant-loop-k l = (l.from ≤ l.k) × (l.k ≤ l.to) × (l.n ≡ l.at + (l.k - l.from)) × (length l.out ≡ length l.initial.out) × Holds l.out l.n (take l.at l.initial.out ++ drop l.from (take l.k l.row))
