-- A gate's clauses hold exactly where its output has the gate's value. The assignment makes variable 0 false.
use mathlib.Core.Path.{◌≡◌, refl, sym, ap, ap₂, ◌∙◌}
use mathlib.Core.Bool.{Bool, true, false, not, ◌&&◌, ◌||◌, cond, beq, not-not, or-true, and-true, or_assoc, and_assoc}
use mathlib.Core.Logic.{◌↔◌}
use mathlib.Core.List.{List, [], ◌∷◌, ◌++◌, map}
use Prim.Native.Nat.{ℕ, zero, suc, ◌+◌, ◌*◌, ◌/◌, ◌%◌}
use native.Mathlib.Omega.{arith}
use lib.Dec.{eqb}
use borrow.Author.Tests.{eqb-true}
use Rattle.laws.specs.Taut.{taut}
use Rattle.laws.specs.Booleans.{beq-iff}
use Rattle.laws.specs.Lists.{All}
use Rattle.scope.specs.Score.{any}
use Rattle.scope.specs.Cnf.{Assignment, opp, signed, lit, clause, clauses, has_true, without_false, tidy, pairs, Gate, or, and, cell, gate_clauses}
use Rattle.theory.proofs.laws.Outputs.{cube, value}

module _ (ν : Assignment) where
  -- the values of literals: v, not v, the opposite of l
  pub lit_pos : (v : ℕ) → lit ν (2 * v) ≡ ν v
  unfolding lit
  lit_pos v =
      let e : 2 * v % 2 ≡ 0 = omega arith in
      let d : 2 * v / 2 ≡ v = omega arith in
      rw (e, d)

  pub lit_neg : (v : ℕ) → lit ν (2 * v + 1) ≡ not (ν v)
  unfolding lit
  lit_neg v =
      let e : (2 * v + 1) % 2 ≡ 1 = omega arith in
      let d : (2 * v + 1) / 2 ≡ v = omega arith in
      rw (e, d)

  pub lit_opp : (l : ℕ) → lit ν (opp l) ≡ not (lit ν l)
  unfolding lit
  lit_opp l = go (l % 2) refl
    where
      go : (r : ℕ) → l % 2 ≡ r → signed (opp l % 2) (ν (opp l / 2)) ≡ not (signed (l % 2) (ν (l / 2)))
      go zero e =
          let p : opp l % 2 ≡ 1 = omega arith in
          let q : opp l / 2 ≡ l / 2 = omega arith in
          rw (p, q, e)
      go (suc zero) e =
          let p : opp l % 2 ≡ 0 = omega arith in
          let q : opp l / 2 ≡ l / 2 = omega arith in
          rw (p, q, e, not-not)
      go (suc (suc k)) e = let f : ⊥ = omega arith in absurd f

  -- clauses one after the other
  pub clause_append : (c d : List ℕ) → clause ν (c ++ d) ≡ clause ν c || clause ν d
  unfolding clause
  clause_append [] d = refl
  clause_append (l ∷ c) d = rw (clause_append c d) (sym (or_assoc (lit ν l) (clause ν c) (clause ν d)))

  pub clauses_append : (c d : List (List ℕ)) → clauses ν (c ++ d) ≡ clauses ν c && clauses ν d
  unfolding clauses
  clauses_append [] d = refl
  clauses_append (c ∷ cs) d = rw (clauses_append cs d) (sym (and_assoc (clause ν c) (clauses ν cs) (clauses ν d)))

  -- an OR over literals that say what some things are
  pub clause_any : {A : Type 0} (f : A → ℕ) (g : A → Bool) (xs : List A) → All (λ x. lit ν (f x) ≡ g x) xs
      → clause ν (map f xs) ≡ any (map g xs)
  unfolding clause any
  clause_any f g [] h = refl
  clause_any f g (x ∷ xs) h = ap₂ (λ a b. a || b) h.0 (clause_any f g xs h.1)

  -- the opposites of literals: all are true where none of these is, and some is true where not all of these are
  cube_opposites : (ls : List ℕ) → cube ν (map opp ls) ≡ not (clause ν ls)
  unfolding cube clause
  cube_opposites [] = refl
  cube_opposites (l ∷ ls) =
      rw (lit_opp, cube_opposites ls) (taut 2 (λ a b. not a && not b) (λ a b. not (a || b)) tt (lit ν l) (clause ν ls))

  clause_opposites : (ls : List ℕ) → clause ν (map opp ls) ≡ not (cube ν ls)
  unfolding cube clause
  clause_opposites [] = refl
  clause_opposites (l ∷ ls) =
      rw (lit_opp, clause_opposites ls) (taut 2 (λ a b. not a || not b) (λ a b. not (a && b)) tt (lit ν l) (cube ν ls))

  pairs_hold : (xs : List ℕ) (p : ℕ) → clauses ν (pairs xs p) ≡ cube ν xs || lit ν p
  unfolding clauses pairs clause cube
  pairs_hold [] p = refl
  pairs_hold (x ∷ xs) p =
      rw (pairs_hold xs p)
      (taut 3 (λ a b p. (a || (p || false)) && (b || p)) (λ a b p. a && b || p) tt (lit ν x) (cube ν xs) (lit ν p))

  -- the law of OR and AND: the literal p, whose opposite is q, is false exactly where all of xs are true, and ys are their opposites
  joined_holds : (xs ys : List ℕ) (p q : ℕ) → clause ν ys ≡ not (cube ν xs) → lit ν q ≡ not (lit ν p)
      → clauses ν (pairs xs p ++ (ys ++ q ∷ []) ∷ []) ≡ beq (lit ν p) (not (cube ν xs))
  unfolding clauses clause
  joined_holds xs ys p q e f =
      rw (clauses_append, pairs_hold, clause_append, e, f)
      (taut 2 (λ a p. (a || p) && ((not a || (not p || false)) && true)) (λ a p. beq p (not a)) tt (cube ν xs) (lit ν p))

  module _ (z : ν 0 ≡ false) where
    -- a clause that is dropped is true, and a constant that is left out is false
    has_true-holds : (c : List ℕ) → has_true c ≡ true → clause ν c ≡ true
    unfolding has_true clause lit
    has_true-holds [] e = e
    has_true-holds (l ∷ c) e = go (eqb l 1) refl (has_true-holds c)
      where
        go : (b : Bool) → eqb l 1 ≡ b → (has_true c ≡ true → clause ν c ≡ true) → lit ν l || clause ν c ≡ true
        go true p ih = rw (eqb-true l 1 p, z)
        go false p ih = rw (ih (rw p at e)) (or-true (lit ν l))

    without_false-same : (c : List ℕ) → clause ν (without_false c) ≡ clause ν c
    unfolding without_false clause lit
    without_false-same [] = refl
    without_false-same (l ∷ c) = go (eqb l 0) refl (without_false-same c)
      where
        go : (b : Bool) → eqb l 0 ≡ b → clause ν (without_false c) ≡ clause ν c
            → clause ν (cond b (without_false c) (l ∷ without_false c)) ≡ lit ν l || clause ν c
        go true p ih = rw (eqb-true l 0 p, z) ih
        go false p ih = ap (λ b. lit ν l || b) ih

    tidy_same : (c : List ℕ) → clauses ν (tidy c) ≡ clause ν c
    unfolding tidy clauses
    tidy_same c = go (has_true c) refl
      where
        go : (b : Bool) → has_true c ≡ b → clauses ν (cond b [] (without_false c ∷ [])) ≡ clause ν c
        go true p = sym (has_true-holds c p)
        go false p = rw (without_false-same c) (and-true (clause ν c))

    gate-clauses : (g : Gate) (o : ℕ) → clauses ν (gate_clauses g o) ≡ beq (ν o) (value ν g)
    unfolding gate_clauses value clauses clause
    gate-clauses (or ls) o =
        let e : clause ν ls ≡ not (cube ν (map opp ls)) = rw (cube_opposites ls, not-not) in
        let f : lit ν (2 * o + 1) ≡ not (lit ν (2 * o)) = rw (lit_neg, lit_pos) in
        joined_holds (map opp ls) ls (2 * o) (2 * o + 1) e f ∙ rw (lit_pos, ← e)
    gate-clauses (and ls) o =
        let f : lit ν (2 * o) ≡ not (lit ν (2 * o + 1)) = rw (lit_neg, lit_pos, not-not) in
        joined_holds ls (map opp ls) (2 * o + 1) (2 * o) (clause_opposites ls) f
        ∙ rw lit_neg (taut 2 (λ a o. beq (not o) (not a)) (λ a o. beq o a) tt (cube ν ls) (ν o))
    gate-clauses (cell x a b) o =
        simp (clauses_append, tidy_same, lit_neg, lit_pos, lit_opp)
        (taut 4
        (λ x a b o.
        (not a || (o || false)) && (not x || (not b || (o || false))) && (x || (a || (not o || false)))
        && (b || (a || (not o || false))))
        (λ x a b o. beq o (a || x && b)) tt (lit ν x) (lit ν a) (lit ν b) (ν o))

    -- the law of gates
    pub gate_holds : (g : Gate) (o : ℕ) → clauses ν (gate_clauses g o) ≡ true ↔ ν o ≡ value ν g
    gate_holds g o = rw gate-clauses (beq-iff (ν o) (value ν g))
