-- Nodes in a model: all clauses are true where the last literal of the long clause is true exactly where no other one is.
use mathlib.Core.Path.{◌≡◌, refl, ap, ◌∙◌, sym}
use mathlib.Core.Bool.{Bool, true, false, not, ◌&&◌, ◌||◌, beq}
use mathlib.Core.List.{List, [], ◌∷◌, ◌++◌, map}
use Prim.Native.Nat.{ℕ, suc, ◌+◌, ◌-◌, ◌<◌, ◌≤◌}
use native.Mathlib.Omega.{arith}
use lib.ListN.{length, drop, drop_of_length-le, get_or, length-append, length-map}
use lib.Seq.{drop-cons, length-take-le}
use native.Mathlib.Numerals.{add-one}
use Rattle.laws.specs.Taut.{taut}
use Rattle.scope.specs.Cnf.{Assignment, bit, lit, opp, clause, clauses, pairs}
use Rattle.theory.proofs.laws.Gates.{lit_opp, clauses_append}
use Rattle.sink.specs.Run.{Ran}
use Rattle.sink.specs.Lines.{clause_line}
use Rattle.sink.specs.World.{world, sink_at, step}
use Rattle.sink.specs.AllTrue.{evaluating, counted}
use Rattle.sink.proofs.laws.AllTrue.{true-ran}
use Rattle.sink.specs.declared.Sink.{Sink}
use Rattle.sink.specs.declared.Job.{Job}
use Rattle.node_clauses.specs.LongClauses.{LongClause, others, last_of, node_clauses}
use Rattle.node_clauses.proofs.laws.LongClauses.{long_split, long_clauses}

module _ (ν : Assignment) where
  pairs_true : (ls : List ℕ) (p : ℕ) → clauses ν (pairs (map opp ls) p) ≡ not (clause ν ls) || lit ν p
  unfolding clauses pairs clause
  pairs_true [] p = refl
  pairs_true (l ∷ ls) p =
      rw (pairs_true ls p, lit_opp ν l)
      (taut 3 (λ a b p. (not a || (p || false)) && (not b || p)) (λ a b p. not (a || b) || p) tt (lit ν l) (clause ν ls) (lit ν p))

  clause_last : (ls : List ℕ) (q : ℕ) → clause ν (ls ++ q ∷ []) ≡ clause ν ls || lit ν q
  unfolding clause
  clause_last [] q = taut 1 (λ a. a || false) (λ a. a) tt (lit ν q)
  clause_last (l ∷ ls) q = rw (clause_last ls q) (taut 3 (λ a b c. a || (b || c)) (λ a b c. a || b || c) tt (lit ν l) (clause ν ls) (lit ν q))

  -- the clauses of the node whose long clause is ls and then q
  module _ (ls : List ℕ) (q : ℕ) where
    node-true : clauses ν (pairs (map opp ls) (opp q) ++ (ls ++ q ∷ []) ∷ []) ≡ beq (lit ν q) (not (clause ν ls))
    unfolding clauses
    node-true =
        rw (clauses_append, pairs_true ls (opp q), lit_opp ν q, clause_last ls q)
        (taut 2 (λ a q. (not a || not q) && ((a || q) && true)) (λ a q. beq q (not a)) tt (clause ν ls) (lit ν q))

    pub true_some : {t : Bool} → t ≡ lit ν q → true ≡ clause ν ls → not t ≡ clauses ν (pairs (map opp ls) (opp q) ++ (ls ++ q ∷ []) ∷ [])
    true_some {t} e h = rw (node-true, ← h, ← e) (taut 1 (λ q. not q) (λ q. beq q false) tt t)

    pub true_none : {t : Bool} → t ≡ lit ν q → false ≡ clause ν ls → t ≡ clauses ν (pairs (map opp ls) (opp q) ++ (ls ++ q ∷ []) ∷ [])
    true_none {t} e h = rw (node-true, ← h, ← e) (taut 1 (λ q. q) (λ q. beq q true) tt t)

  -- the literals that are left from i on: the one at i, and no more
  module _ (ls : List ℕ) (i : ℕ) (h : i < length ls) where
    next_literal : clause ν (drop i ls) ≡ lit ν (get_or ls i 0) || clause ν (drop (i + 1) ls)
    unfolding clause
    next_literal = rw (drop-cons ls i 0 h, add-one i)

    pub clause_found : {t : Bool} → t ≡ lit ν (get_or ls i 0) → t ≡ true → clause ν (drop i ls) ≡ clause ν ls → true ≡ clause ν ls
    clause_found {t} e f g = sym (sym g ∙ next_literal ∙ rw (← e, f))

    pub clause_next : {t : Bool} → t ≡ lit ν (get_or ls i 0) → t ≡ false → clause ν (drop i ls) ≡ clause ν ls → clause ν (drop (i + 1) ls) ≡ clause ν ls
    clause_next {t} e f g = sym (rw (← e, f) at next_literal) ∙ g

  pub clause_none : (ls : List ℕ) (i : ℕ) → length ls ≤ i → clause ν (drop i ls) ≡ clause ν ls → false ≡ clause ν ls
  unfolding clause
  clause_none ls i h g = rw (drop_of_length-le ls h) at g

-- how many clauses a node has
pairs-length : (ls : List ℕ) (p : ℕ) → length (pairs ls p) ≡ length ls
unfolding pairs
pairs-length [] p = refl
pairs-length (l ∷ ls) p = ap suc (pairs-length ls p)

node-count : {ws : List ℕ} → LongClause ws → get_or ws (length ws - 1) 0 < 4294967296 → length (node_clauses ws) ≡ length ws - 1 + 1
unfolding node_clauses
node-count {ws} h s =
    rw (length-append, pairs-length (map opp (others ws)) (opp (last_of ws)), length-map (others ws) opp, length-take-le (length ws - 1) ws (omega arith), long_split h s)

-- a run over the clauses of such a node in the mode Evaluate
pub node-passed : (k : Job) (m : List ℕ) {ws : List ℕ} {s s' : Sink} {t v : List ℕ} → LongClause ws → get_or ws (length ws - 1) 0 < 4294967296
    → true ≡ evaluating k.mode
    → true ≡ clauses (bit m) (pairs (map opp (others ws)) (opp (last_of ws)) ++ (others ws ++ last_of ws ∷ []) ∷ [])
    → s' ≡ sink_at (counted (length ws - 1 + 1) s.at) s
    → Ran (step k m) (map clause_line (node_clauses ws)) (world s t v) (world s' t v)
node-passed k m {ws} h b e f q =
    true-ran k m (node_clauses ws) (sym e) (ap (clauses (bit m)) (long_clauses h b) ∙ sym f) (rw (node-count h b) q)
