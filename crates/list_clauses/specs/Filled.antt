-- The words of nodes and members in a store: they are read as the gates of the nodes, and written as their items.
use Rattle.std.specs.Prelude.{◌≡◌, List, ℕ, ◌+◌, ◌≤◌, length, take}
use Rattle.scope.specs.Cnf.{Gate}
use Rattle.parsing.specs.Each.{Each}
use Rattle.literals.specs.NodeWords.{nodes_words, IsNode}

-- the store begins with the nodes gs, whose outputs are v and those after it
pub record Stored (v : ℕ) (gs : List Gate) (store : List ℕ) : Type 0 where
  pub front : take (length (nodes_words v gs)) store ≡ nodes_words v gs
  pub nodes : Each IsNode gs
  pub small : v + length gs ≤ 1073741824
