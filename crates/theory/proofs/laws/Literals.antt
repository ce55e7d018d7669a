-- The hard clauses of a formula have literals of its variables alone, no constant among them.
use mathlib.Core.Path.{◌≡◌, refl}
use mathlib.Core.Bool.{Bool, true, false, cond, true≢false}
use mathlib.Core.List.{List, [], ◌∷◌, ◌++◌, map}
use Prim.Native.Nat.{ℕ, suc, ◌+◌, ◌*◌, ◌<◌, ◌≤◌}
use native.Mathlib.Omega.{arith}
use lib.Dec.{eqb}
use borrow.Author.Tests.{eqb-false}
use Rattle.laws.specs.Lists.{All, All-append, All-map}
use Rattle.scope.specs.Instance.{Instance}
use Rattle.scope.specs.Cnf.{pos, neg, opp, has_true, without_false, tidy, pairs, Gate, or, and, cell, gate_clauses, Item, gate, hard, soft, hard_clauses, gates}
use Rattle.scope.specs.Formula.{primary, formula, variables, hard_of, bounded, bounded_variables, bounded_hard}
use Rattle.theory.specs.Accepted.{ValidInstance}
use Rattle.theory.proofs.laws.Order.{Proper, Reads, Ordered, opp-proper, all-proper-up}
use Rattle.theory.proofs.laws.FormulaOrder.{formula_order}
use Rattle.theory.proofs.laws.Bounded.{bounded_order}

-- of variables before m
module _ (m : ℕ) where
  without_false-proper : (c : List ℕ) → has_true c ≡ false → All (λ l. l < 2 * m) c → All (Proper m) (without_false c)
  unfolding has_true without_false
  without_false-proper [] e a = tt
  without_false-proper (l ∷ c) e a = go (eqb l 1) refl (eqb l 0) refl (λ f. without_false-proper c f a.1)
    where
      go : (x : Bool) → eqb l 1 ≡ x → (y : Bool) → eqb l 0 ≡ y → (has_true c ≡ false → All (Proper m) (without_false c))
          → All (Proper m) (cond y (without_false c) (l ∷ without_false c))
      go true p y q ih = absurd (true≢false (rw p at e))
      go false p true q ih = ih (rw p at e)
      go false p false q ih =
          let f : l ≡ 1 → ⊥ = eqb-false l 1 p in
          let g : l ≡ 0 → ⊥ = eqb-false l 0 q in
          (record { literal = omega arith; before = a.0 }, ih (rw p at e))

  tidy_proper : (c : List ℕ) → All (λ l. l < 2 * m) c → All (All (Proper m)) (tidy c)
  unfolding tidy
  tidy_proper c a = go (has_true c) refl
    where
      go : (x : Bool) → has_true c ≡ x → All (All (Proper m)) (cond x [] (without_false c ∷ []))
      go true e = tt
      go false e = (without_false-proper c e a, tt)

  pairs_proper : (ls : List ℕ) (p : ℕ) → Proper m p → All (Proper m) ls → All (All (Proper m)) (pairs ls p)
  unfolding pairs
  pairs_proper [] p h a = tt
  pairs_proper (l ∷ ls) p h a = ((a.0, (h, tt)), pairs_proper ls p h a.1)

  -- the clauses of an OR or an AND
  joined_proper : (xs ys : List ℕ) (p q : ℕ) → Proper m p → Proper m q → All (Proper m) xs → All (Proper m) ys
      → All (All (Proper m)) (pairs xs p ++ (ys ++ q ∷ []) ∷ [])
  joined_proper xs ys p q h k a b =
      All-append (All (Proper m)) (pairs xs p) _ (pairs_proper xs p h a) (All-append (Proper m) ys (q ∷ []) b (k, tt), tt)

  opposites_proper : (ls : List ℕ) → All (Proper m) ls → All (Proper m) (map opp ls)
  opposites_proper ls a = All-map (Proper m) (Proper m) opp (λ l. opp-proper m l) ls a

  cell_proper : (x a b n : ℕ) → 1 ≤ n → n < m → x < 2 * n → a < 2 * n → b < 2 * n
      → All (All (Proper m)) (gate_clauses (cell x a b) n)
  unfolding gate_clauses
  cell_proper x a b n p h i j k =
      let P = All (Proper m) in
      let c1 = opp a ∷ pos n ∷ [] in
      let c2 = opp x ∷ opp b ∷ pos n ∷ [] in
      let c3 = x ∷ a ∷ neg n ∷ [] in
      let c4 = b ∷ a ∷ neg n ∷ [] in
      All-append P (tidy c1 ++ tidy c2 ++ tidy c3) (tidy c4)
      (All-append P (tidy c1 ++ tidy c2) (tidy c3)
      (All-append P (tidy c1) (tidy c2) (tidy_proper c1 (omega arith)) (tidy_proper c2 (omega arith)))
      (tidy_proper c3 (omega arith)))
      (tidy_proper c4 (omega arith))

  gate_proper : (g : Gate) (n : ℕ) → 1 ≤ n → n < m → Reads n g → All (All (Proper m)) (gate_clauses g n)
  unfolding gate_clauses
  gate_proper (or ls) n p h r =
      let b = all-proper-up n m ls (omega arith) r in
      joined_proper (map opp ls) ls (pos n) (neg n) (omega arith) (omega arith) (opposites_proper ls b) b
  gate_proper (and ls) n p h r =
      let b = all-proper-up n m ls (omega arith) r in
      joined_proper ls (map opp ls) (neg n) (pos n) (omega arith) (omega arith) b (opposites_proper ls b)
  gate_proper (cell x a b) n p h r = cell_proper x a b n p h r.0.before r.1 r.2

  -- the clauses of items in order, whose variables are all before m
  pub hard_literals : (n : ℕ) (is : List Item) → 1 ≤ n → n + gates is ≤ m → Ordered n is → All (All (Proper m)) (hard_clauses n is)
  unfolding hard_clauses
  hard_literals n [] p h a = tt
  hard_literals n (gate g ∷ is) p h a =
      All-append (All (Proper m)) (gate_clauses g n) (hard_clauses (suc n) is) (gate_proper g n p (omega arith) a.0)
      (hard_literals (suc n) is (omega arith) (omega arith) a.1)
  hard_literals n (hard c ∷ is) p h a = (all-proper-up n m c (omega arith) a.0, hard_literals n is p h a.1)
  hard_literals n (soft w l ∷ is) p h a = hard_literals n is p h a.1

-- the formula of an accepted instance, without and with the tail for a bound
pub formula-literals : (i : Instance) → ValidInstance i → All (All (Proper (variables i + 1))) (hard_of i)
unfolding variables hard_of
formula-literals i v = hard_literals (variables i + 1) (primary i + 1) (formula i) (omega arith) (omega arith) (formula_order i v)

pub bounded-literals : (i : Instance) → ValidInstance i → (B : ℕ)
    → All (All (Proper (bounded_variables i B + 1))) (bounded_hard i B)
unfolding bounded_variables bounded_hard
bounded-literals i v B =
    hard_literals (bounded_variables i B + 1) (primary i + 1) (bounded i B) (omega arith) (omega arith) (bounded_order i v B)
