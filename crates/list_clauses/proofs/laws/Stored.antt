-- A list in a store of words: its nodes, as they are read one after another, and its members: laws.
use mathlib.Core.Path.{◌≡◌, refl, ap, ◌∙◌, subst}
use mathlib.Core.Bool.{Bool, true, false}
use mathlib.Core.List.{List, [], ◌∷◌, ◌++◌, map}
use Prim.Native.Nat.{ℕ, suc, ◌+◌, ◌-◌, ◌≤◌, ◌<◌}
use native.Mathlib.Nat.{sub-zero}
use native.Mathlib.Numerals.{add-one}
use native.Mathlib.Omega.{arith}
use lib.Dec.{ltb}
use lib.ListN.{length, take, drop, get_or, length-drop, drop_of_length-le}
use lib.Seq.{drop-cons, drop-drop}
use borrow.Author.Tests.{ltb-true, ltb-false}
use Rattle.sink.specs.Lines.{Line, clause_line}
use Rattle.sink.proofs.laws.Lines.{map-append}
use Rattle.node_clauses.specs.LongClauses.{LongClause, node_clauses}
use Rattle.list_clauses.specs.Stored.{store_clauses, StoreNodes}

-- one node and then the others, as the loop takes them: the node at the place a
pub record Turn (n a : ℕ) (ws : List ℕ) : Type 0 where
  pub room : a + 1 + get_or ws a 0 + 1 ≤ length ws
  pub long : LongClause (take (a + 1 + get_or ws a 0 + 1 - (a + 1)) (drop (a + 1) ws))
  pub rest : StoreNodes n (drop (a + 1 + get_or ws a 0 + 1) ws)
  pub lines : map clause_line (store_clauses (suc n) (drop a ws))
      ≡ map clause_line (node_clauses (take (a + 1 + get_or ws a 0 + 1 - (a + 1)) (drop (a + 1) ws))) ++ map clause_line (store_clauses n (drop (a + 1 + get_or ws a 0 + 1) ws))

next-node : (n a : ℕ) (ws : List ℕ) → a < length ws → StoreNodes (suc n) (drop a ws) → Turn n a ws
unfolding store_clauses
next-node n a ws h s =
    let k : ℕ = get_or ws a 0 in
    let e : drop a ws ≡ k ∷ drop (a + 1) ws = rw (add-one a) (drop-cons ws a 0 h) in
    let p : (k + 1 ≤ length (drop (a + 1) ws)) × LongClause (take (k + 1) (drop (a + 1) ws)) × StoreNodes n (drop (k + 1) (drop (a + 1) ws)) = subst (StoreNodes (suc n)) e s in
    let m : a + 1 + k + 1 - (a + 1) ≡ k + 1 = omega arith in
    let j : a + 1 + (k + 1) ≡ a + 1 + k + 1 = omega arith in
    let d : drop (k + 1) (drop (a + 1) ws) ≡ drop (a + 1 + k + 1) ws = drop-drop (k + 1) (a + 1) ws ∙ ap (λ (x : ℕ). drop x ws) j in
    record {
      room = omega (arith, p.0, length-drop (a + 1) ws);
      long = rw m p.1;
      rest = subst (StoreNodes n) d p.2;
      lines = ap (λ (xs : List ℕ). map clause_line (store_clauses (suc n) xs)) e
          ∙ map-append clause_line (node_clauses (take (k + 1) (drop (a + 1) ws))) (store_clauses n (drop (k + 1) (drop (a + 1) ws)))
          ∙ rw (m, d);
    }

pub node-turn : (n a : ℕ) (ws : List ℕ) → StoreNodes (suc n) (drop a ws) → Turn n a ws
node-turn n a ws s = go (ltb a (length ws)) refl
  where
    go : (b : Bool) → ltb a (length ws) ≡ b → Turn n a ws
    go true e = next-node n a ws (ltb-true a (length ws) e) s
    go false e = absurd (subst (StoreNodes (suc n)) (drop_of_length-le ws (ltb-false a (length ws) e)) s)

-- the same by the number i of nodes passed
module _ (count : ℕ) (ws : List ℕ) where
  abbrev pub LeftNodes : (i a : ℕ) → Type 0
  LeftNodes i a = StoreNodes (count - i) (drop a ws)

  abbrev pub left_lines : (i a : ℕ) → List Line
  left_lines i a = map clause_line (store_clauses (count - i) (drop a ws))

  pub left_start : StoreNodes count ws → LeftNodes 0 0
  left_start h = rw (sub-zero count) h

  pub left_all : left_lines 0 0 ≡ map clause_line (store_clauses count ws)
  left_all = rw (sub-zero count)

  module _ (i a : ℕ) (h : i < count) (s : LeftNodes i a) where
    left_more : count - i ≡ suc (count - (i + 1))
    left_more = omega arith

    pub left_node : Turn (count - (i + 1)) a ws
    left_node = node-turn (count - (i + 1)) a ws (subst (λ (n : ℕ). StoreNodes n (drop a ws)) left_more s)

    pub left_turn : left_lines i a
        ≡ map clause_line (node_clauses (take (a + 1 + get_or ws a 0 + 1 - (a + 1)) (drop (a + 1) ws))) ++ left_lines (i + 1) (a + 1 + get_or ws a 0 + 1)
    left_turn = ap (λ (n : ℕ). map clause_line (store_clauses n (drop a ws))) left_more ∙ left_node.lines

-- no node is left
pub nodes-end : (n : ℕ) (ws : List ℕ) → n ≡ 0 → map clause_line (store_clauses n ws) ≡ []
unfolding store_clauses
nodes-end n ws e = rw e
