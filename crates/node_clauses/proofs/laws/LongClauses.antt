-- A node's clauses read off its long clause: for each word m before the last the clause (opposite of m, opposite of the last), and
-- then the long clause itself: laws.
use mathlib.Core.Path.{◌≡◌, refl, ap, ◌∙◌, sym, subst}
use mathlib.Core.List.{List, [], ◌∷◌, ◌++◌, map, append-nil}
use Prim.Native.Nat.{ℕ, zero, suc, ◌+◌, ◌-◌, ◌*◌, ◌<◌}
use native.Mathlib.Numerals.{add-one}
use native.Mathlib.Omega.{arith}
use lib.ListN.{length, take, get_or, set, length-append, get_or-append}
use lib.Seq.{take_at, get_or_at, take_all, take-suc, take-suc-set}
use Rattle.scope.specs.Cnf.{pos, neg, opp, pairs, or, and, gate, gate_clauses}
use Rattle.sink.specs.Run.{Ran, then}
use Rattle.sink.specs.Lines.{Line, clause_line, lines}
use Rattle.sink.proofs.laws.Lines.{map-append}
use Rattle.sink.specs.World.{World}
use Rattle.sink.specs.Block.{split, Small, Whole, Marks}
use Rattle.counters.specs.Literals.{LiteralsTo, Literals}
use Rattle.counters.proofs.laws.Literals.{literal-opposite, small_all, literals-take}
use Rattle.gates.proofs.laws.Blocks.{opposite-twice}
use Rattle.node_clauses.proofs.laws.Long.{long-block}
use Rattle.node_clauses.specs.LongClauses.{others, last_of, node_clauses, LongClause}

-- literals and then a marked one
module _ (ls : List ℕ) (p : ℕ) where
  joined_length : length (ls ++ (p + 2147483648) ∷ []) - 1 ≡ length ls
  joined_length = rw length-append (omega arith)

  joined_others : others (ls ++ (p + 2147483648) ∷ []) ≡ ls
  joined_others = rw joined_length (take_at ls ((p + 2147483648) ∷ []) (length ls) refl)

  joined_last : get_or (ls ++ (p + 2147483648) ∷ []) (length (ls ++ (p + 2147483648) ∷ []) - 1) 0 ≡ p + 2147483648
  joined_last = rw joined_length (get_or_at ls (p + 2147483648) [] 0 (length ls) refl)

  long_clause : Small ls → p < 2147483648 → node_clauses (ls ++ (p + 2147483648) ∷ []) ≡ pairs (map opp ls) (opp p) ++ (ls ++ p ∷ []) ∷ []
  unfolding node_clauses
  long_clause h g =
      let e : p + 2147483648 - 2147483648 ≡ p = omega arith in
      rw (joined_others, joined_last, e, (long-block ls p h g).clauses)

  pub long_literals : Literals ls → LongClause (ls ++ (p + 2147483648) ∷ [])
  long_literals h =
      record {
        some = rw length-append (omega arith);
        literals = λ i g. let k : i < length ls = rw joined_length at g in rw (get_or-append ls ((p + 2147483648) ∷ []) 0 i k) (h i k);
        marked = rw joined_last (omega arith);
      }

-- the opposites of literals
pub literals-opposites : (ls : List ℕ) → Literals ls → Literals (map opp ls)
literals-opposites [] h i g = absurd (omega arith)
literals-opposites (l ∷ ls) h zero g = literal-opposite l (h 0 (omega arith))
literals-opposites (l ∷ ls) h (suc i) g = literals-opposites ls (λ j k. h (suc j) (omega arith)) i (omega arith)

opposites-twice : (ls : List ℕ) → map opp (map opp ls) ≡ ls
opposites-twice [] = refl
opposites-twice (l ∷ ls) = rw (opposite-twice l) (ap (◌∷◌ l) (opposites-twice ls))

-- the clauses of an OR and of an AND whose output is the variable o
module _ (ls : List ℕ) (o : ℕ) (h : Literals ls) (s : o < 1073741824) where
  pub or_clauses : node_clauses (ls ++ (neg o + 2147483648) ∷ []) ≡ gate_clauses (or ls) o
  unfolding gate_clauses
  or_clauses =
      let e : opp (neg o) ≡ pos o = omega arith in
      rw (long_clause ls (neg o) (small_all ls h) (omega arith), e)

  pub and_clauses : node_clauses (map opp ls ++ (pos o + 2147483648) ∷ []) ≡ gate_clauses (and ls) o
  unfolding gate_clauses
  and_clauses =
      let e : opp (pos o) ≡ neg o = omega arith in
      rw (long_clause (map opp ls) (pos o) (small_all (map opp ls) (literals-opposites ls h)) (omega arith), e, opposites-twice ls)

-- an OR of the first n words of a list, stored with its output after them
module _ (n : ℕ) (xs : List ℕ) (o : ℕ) (h : n < length xs) (f : LiteralsTo n xs) where
  or_stored : take (n + 1) (set xs n (2 * o + 1 + 2147483648)) ≡ take n xs ++ (neg o + 2147483648) ∷ []
  or_stored = rw (add-one n) (take-suc-set xs n (2 * o + 1 + 2147483648) h)

  or_literals : Literals (take n xs)
  or_literals = literals-take n xs (omega arith) f

  pub or_long : LongClause (take (n + 1) (set xs n (2 * o + 1 + 2147483648)))
  or_long = subst LongClause (sym or_stored) (long_literals (take n xs) (neg o) or_literals)

  pub or_ran : {s : Line → World → World} {w w' : World} → o < 1073741824
      → Ran s (map clause_line (node_clauses (take (n + 1) (set xs n (2 * o + 1 + 2147483648))))) w w'
      → Ran s (lines o (gate (or (take n xs)) ∷ [])) w w'
  unfolding lines
  or_ran g r = rw (append-nil (map clause_line (gate_clauses (or (take n xs)) o)), ← (or_clauses (take n xs) o or_literals g), ← or_stored) r

-- a long clause as a block
module _ {ws : List ℕ} (h : LongClause ws) where
  ends : ws ≡ others ws ++ get_or ws (length ws - 1) 0 ∷ []
  ends =
      sym (take_all (suc (length ws - 1)) ws (omega (arith, h.some))) ∙ take-suc ws (length ws - 1) 0 (omega (arith, h.some))

  pub long_others : Literals (others ws)
  long_others = literals-take (length ws - 1) ws (omega arith) h.literals

  long_marks : get_or ws (length ws - 1) 0 < 4294967296 → Marks (others ws ++ get_or ws (length ws - 1) 0 ∷ []) ((others ws ++ last_of ws ∷ []) ∷ [])
  long_marks s =
      let e : last_of ws + 2147483648 ≡ get_or ws (length ws - 1) 0 = omega (arith, h.marked) in
      rw e at (long-block (others ws) (last_of ws) (small_all (others ws) long_others) (omega (arith, h.marked, s)))

  pub long_whole : get_or ws (length ws - 1) 0 < 4294967296 → Whole ws
  long_whole s = subst Whole (sym ends) (long_marks s).whole

  pub long_split : get_or ws (length ws - 1) 0 < 4294967296 → split ws ≡ (others ws ++ last_of ws ∷ []) ∷ []
  long_split s = ap split ends ∙ (long_marks s).clauses

  pub long_clauses : get_or ws (length ws - 1) 0 < 4294967296
      → node_clauses ws ≡ pairs (map opp (others ws)) (opp (last_of ws)) ++ (others ws ++ last_of ws ∷ []) ∷ []
  unfolding node_clauses
  long_clauses s = ap (λ (cs : List (List ℕ)). pairs (map opp (others ws)) (opp (last_of ws)) ++ cs) (long_split s)

-- the short clauses, and then the long one
pub long-ran : {f : Line → World → World} (ws : List ℕ) {o : ℕ} {w₀ w₁ w₂ : World} → o ≡ opp (last_of ws)
    → Ran f (map clause_line (pairs (map opp (others ws)) (o + 2147483648 - 2147483648))) w₀ w₁
    → Ran f (map clause_line (split ws)) w₁ w₂ → Ran f (map clause_line (node_clauses ws)) w₀ w₂
unfolding node_clauses
long-ran ws {o} e p q =
    let n : o + 2147483648 - 2147483648 ≡ opp (last_of ws) = omega arith in
    rw (map-append clause_line (pairs (map opp (others ws)) (opp (last_of ws))) (split ws)) (then (rw n at p) q)
