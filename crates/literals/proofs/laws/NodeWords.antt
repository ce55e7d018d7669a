-- Nodes as they stand in a store of words: ORs and ANDs, each a head word and its long clause: laws.
use mathlib.Core.Path.{◌≡◌, refl, sym}
use mathlib.Core.List.{List, [], ◌∷◌, ◌++◌, map, append_assoc}
use native.Mathlib.Nat.{add-zero}
use native.Mathlib.Omega.{arith}
use Prim.Native.Nat.{ℕ, suc, ◌+◌}
use lib.ListN.{length}
use Rattle.scope.specs.Cnf.{pos, neg, opp, Gate, or, and}
use Rattle.literals.specs.NodeWords.{inputs, node_words, nodes_words}

-- the words of an OR, and of an AND
pub or-words : (ls : List ℕ) (o : ℕ) → node_words (or ls) o ≡ length ls ∷ ls ++ (neg o + 2147483648) ∷ []
unfolding node_words inputs
or-words ls o = refl

pub and-words : (ls : List ℕ) (o : ℕ) → node_words (and ls) o ≡ length ls ∷ map opp ls ++ (pos o + 2147483648) ∷ []
unfolding node_words inputs
and-words ls o = refl

-- some nodes and then others
pub nodes-words-both : (gs hs : List Gate) (v : ℕ) → nodes_words v (gs ++ hs) ≡ nodes_words v gs ++ nodes_words (v + length gs) hs
unfolding nodes_words
nodes-words-both [] hs v = rw (add-zero v)
nodes-words-both (g ∷ gs) hs v =
    let e : suc v + length gs ≡ v + suc (length gs) = omega arith in
    rw (nodes-words-both gs hs (suc v), e) (sym (append_assoc (node_words g v) (nodes_words (suc v) gs) _))
