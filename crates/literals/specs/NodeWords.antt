-- Nodes as they stand in a store of words: ORs and ANDs, each a head word and its long clause.
use Rattle.std.specs.Prelude.{List, [], ◌∷◌, ◌++◌, map, ℕ, suc, ◌+◌, length}
use Rattle.scope.specs.Cnf.{pos, neg, opp, Gate, or, and, cell}
use Rattle.parsing.specs.Each.{Each}
use Rattle.literals.specs.Proper.{Proper}

-- the inputs of a gate
unfoldable pub inputs : Gate → List ℕ
inputs (or ls) = ls
inputs (and ls) = ls
inputs (cell x a b) = []

-- what stands before the last word of the long clause of a gate, and the literal of its last word, where o is its output
abbrev pub long_front : Gate → List ℕ
long_front (or ls) = ls
long_front (and ls) = map opp ls
long_front (cell x a b) = []

abbrev pub long_last : Gate → ℕ → ℕ
long_last (or ls) o = neg o
long_last (and ls) o = pos o
long_last (cell x a b) o = 0

-- the words of a node: how many inputs it has, then its long clause with the last word marked
unfoldable pub node_words : Gate → ℕ → List ℕ
node_words g o = length (inputs g) ∷ long_front g ++ (long_last g o + 2147483648) ∷ []

-- the words of nodes whose outputs are v and those after it
unfoldable pub nodes_words : ℕ → List Gate → List ℕ
nodes_words v [] = []
nodes_words v (g ∷ gs) = node_words g v ++ nodes_words (suc v) gs

-- a gate that can be a node: an OR or an AND of literals
abbrev pub IsNode : Gate → Type 0
IsNode (or ls) = Each Proper ls
IsNode (and ls) = Each Proper ls
IsNode (cell x a b) = ⊥
