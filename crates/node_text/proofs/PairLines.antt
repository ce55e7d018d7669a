-- The lines of clauses of two literals, one by one.
use mathlib.Core.Path.{◌≡◌, refl, ap, sym, ◌∙◌}
use mathlib.Core.Bool.{Bool, true, false}
use mathlib.Core.List.{List, [], ◌∷◌, ◌++◌, map, flat_map, append_assoc}
use Prim.Native.Nat.{ℕ, ◌+◌, ◌/◌, ◌≤◌, ◌<◌}
use native.Mathlib.Numerals.{add-one}
use native.Mathlib.Omega.{arith}
use lib.Dec.{ltb}
use borrow.Author.Tests.{ltb-true, ltb-false}
use lib.ListN.{length, drop, get_or, drop_of_length-le}
use lib.Seq.{drop-cons}
use Rattle.scope.specs.Cnf.{opp, pairs}
use Rattle.scope.specs.Text.{line, literal_text}

module _ (top q : ℕ) (ls : List ℕ) (i : ℕ) where
  pub lines_turn : {x : ℕ} → i < length ls → x ≡ opp (get_or ls i 0)
      → flat_map (line top) (pairs (map opp (drop i ls)) q) ≡ line top (x ∷ q ∷ []) ++ flat_map (line top) (pairs (map opp (drop (i + 1) ls)) q)
  unfolding pairs flat_map
  lines_turn h e = rw (drop-cons ls i 0 h, add-one i, e)

  pub lines_end : length ls ≤ i → flat_map (line top) (pairs (map opp (drop i ls)) q) ≡ []
  unfolding pairs flat_map
  lines_end h = rw (drop_of_length-le ls h)

-- one literal more is short
pub one_more : (ls : List ℕ) (i : ℕ) → ((k : ℕ) → k < i → get_or ls k 0 < 20000000) → get_or ls i 0 < 20000000
    → (k : ℕ) → k < i + 1 → get_or ls k 0 < 20000000
one_more ls i h e k l = go (ltb k i) refl
  where
    go : (t : Bool) → ltb k i ≡ t → get_or ls k 0 < 20000000
    go true q = h k (ltb-true k i q)
    go false q = let s : k ≡ i = omega (arith, ltb-false k i q) in rw s e

-- a literal's number is its opposite's
pub half-opposite : (l : ℕ) {k : ℕ} → k ≡ opp l → k / 2 ≡ l / 2
half-opposite l e = rw e (omega arith)

-- a clause's literals, one by one
module _ (ls : List ℕ) (i : ℕ) where
  pub literals_turn : i < length ls → flat_map literal_text (drop i ls) ≡ literal_text (get_or ls i 0) ++ flat_map literal_text (drop (i + 1) ls)
  unfolding flat_map
  literals_turn h = rw (drop-cons ls i 0 h, add-one i)

  pub literals_end : length ls ≤ i → flat_map literal_text (drop i ls) ≡ []
  unfolding flat_map
  literals_end h = rw (drop_of_length-le ls h)

-- and another after them
pub literals-last : (ls : List ℕ) (q : ℕ) → flat_map literal_text (ls ++ q ∷ []) ≡ flat_map literal_text ls ++ (literal_text q ++ [])
unfolding flat_map
literals-last [] q = refl
literals-last (l ∷ ls) q = ap (◌++◌ (literal_text l)) (literals-last ls q) ∙ sym (append_assoc (literal_text l) (flat_map literal_text ls) (literal_text q ++ []))
