-- How many words the clauses of nodes have.
use mathlib.Core.Path.{◌≡◌, refl, ◌∙◌}
use mathlib.Core.List.{List, [], ◌∷◌, ◌++◌, map, flat_map}
use Prim.Native.Nat.{ℕ, zero, suc, ◌+◌, ◌*◌, ◌≤◌}
use native.Mathlib.Nat.{suc-mul}
use native.Mathlib.Omega.{arith}
use lib.ListN.{length, length-append, length-map}
use Rattle.scope.specs.Kinds.{Atom, Node, some_of, all_of, from}
use Rattle.scope.specs.Cnf.{pos, neg, opp, pairs, gate_clauses, gate, hard_clauses}
use Rattle.scope.specs.Formula.{ref_literal, node_gate, words}

-- clauses one after the other
pub words_append : (cs ds : List (List ℕ)) → words (cs ++ ds) ≡ words cs + words ds
unfolding words
words_append [] ds = omega arith
words_append (c ∷ cs) ds = rw (words_append cs ds) (omega arith)

-- the pairs of an OR or an AND
pub pairs-words : (ls : List ℕ) (p : ℕ) → words (pairs ls p) ≡ 2 * length ls
unfolding pairs words
pairs-words [] p = refl
pairs-words (l ∷ ls) p = rw (pairs-words ls p) (omega arith)

-- the clauses of an OR or an AND of n literals
joined_words : (xs ys : List ℕ) (p q n : ℕ) → length xs ≡ n → length ys ≡ n → words (pairs xs p ++ (ys ++ q ∷ []) ∷ []) ≡ 3 * n + 1
unfolding words
joined_words xs ys p q n e f = rw (words_append, pairs-words, length-append, e, f) (omega arith)

-- how many references a node has; the words of the clauses of some nodes
abbrev pub references : Node → ℕ
references (some_of rs) = length rs
references (all_of rs) = length rs

unfoldable pub words_of : List Node → ℕ
words_of [] = 0
words_of (n ∷ ns) = 3 * references n + 1 + words_of ns

pub node-words : (num : Atom → ℕ) (v o : ℕ) (n : Node) → words (gate_clauses (node_gate num v n) o) ≡ 3 * references n + 1
unfolding gate_clauses
node-words num v o (some_of rs) =
    let ls = map (ref_literal num v) rs in
    let e = length-map rs (ref_literal num v) in
    joined_words (map opp ls) ls (pos o) (neg o) (length rs) (length-map ls opp ∙ e) e
node-words num v o (all_of rs) =
    let ls = map (ref_literal num v) rs in
    let e = length-map rs (ref_literal num v) in
    joined_words ls (map opp ls) (neg o) (pos o) (length rs) e (length-map ls opp ∙ e)

pub nodes-words : (num : Atom → ℕ) (v o : ℕ) (ns : List Node) → words (hard_clauses o (map gate (map (node_gate num v) ns))) ≡ words_of ns
unfolding hard_clauses words words_of
nodes-words num v o [] = refl
nodes-words num v o (n ∷ ns) =
    words_append (gate_clauses (node_gate num v n) o) (hard_clauses (suc o) (map gate (map (node_gate num v) ns)))
    ∙ rw (node-words num v o n, nodes-words num v (suc o) ns)

-- nodes one after the other; up to m words for each of some numbers
pub words_of-append : (ns ms : List Node) → words_of (ns ++ ms) ≡ words_of ns + words_of ms
unfolding words_of
words_of-append [] ms = omega arith
words_of-append (n ∷ ns) ms = rw (words_of-append ns ms) (omega arith)

pub words_of-each : (f : ℕ → List Node) (m t k : ℕ) → ((u : ℕ) → t ≤ u → words_of (f u) ≤ m) → words_of (flat_map f (from t k)) ≤ k * m
unfolding from flat_map words_of
words_of-each f m t zero h = omega arith
words_of-each f m t (suc k) h =
    let e = words_of-append (f t) (flat_map f (from (suc t) k)) in
    omega (arith, e, suc-mul k m, h t (omega arith), words_of-each f m (suc t) k (λ u l. h u (omega arith)))
