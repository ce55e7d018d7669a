-- A formula, without and with its tail, can stand in the checker's stores: no clause is empty, every literal is one of its variables,
-- and rows can say where its clauses stand.
use mathlib.Core.List.{List, [], ◌∷◌}
use Prim.Native.Nat.{ℕ, ◌+◌, ◌≤◌}
use native.Mathlib.Omega.{arith}
use lib.ListN.{length}
use Rattle.laws.specs.Lists as lists
use Rattle.scope.specs.Instance.{Instance}
use Rattle.scope.specs.Formula.{words, variables, hard_of, bounded_variables, bounded_hard}
use Rattle.theory.specs.Accepted.{ValidInstance}
use Rattle.theory.proofs.laws.Order.{Proper}
use Rattle.theory.proofs.laws.Literals.{formula-literals, bounded-literals}
use Rattle.holding.specs.Holding.{All, Good}
use Rattle.holding.specs.Built.{Each, Narrow}
use Rattle.formula_words.proofs.Words.{hard_words, bounded_words}
use Rattle.building.specs.Marked.{Small, Plain}
use Rattle.claims.proofs.laws.NonEmpty.{NonEmpty, formula-nonempty, bounded-nonempty}

-- of variables before m, which is at most 2 ^ 30
module _ (m : ℕ) (h : m ≤ 1073741824) where
  small : (c : List ℕ) → lists.All (Proper m) c → Small c
  small [] a = tt
  small (l ∷ ls) a = (omega (arith, a.0.before), small ls a.1)

  plain : (f : List (List ℕ)) → lists.All NonEmpty f → lists.All (lists.All (Proper m)) f → Plain f
  plain [] n a = tt
  plain ([] ∷ f) n a = absurd n.0
  plain ((l ∷ ls) ∷ f) n a = (small (l ∷ ls) a.0, plain f n.1 a.1)

-- of variables up to the last
module _ (last : ℕ) where
  good : (l : ℕ) → Proper (last + 1) l → Good last l
  good l p = record { two = p.literal; most = omega (arith, p.before) }

  all_good : (c : List ℕ) → lists.All (Proper (last + 1)) c → All (Good last) c
  all_good [] a = tt
  all_good (l ∷ ls) a = (good l a.0, all_good ls a.1)

  each_good : (f : List (List ℕ)) → lists.All (lists.All (Proper (last + 1))) f → Each (Good last) f
  each_good [] a = tt
  each_good (c ∷ f) a = (all_good c a.0, each_good f a.1)

-- clauses with variables up to the last, of which no more are allowed than 8,000,000
pub record Storable (last : ℕ) (f : List (List ℕ)) : Type 0 where
  pub plain : Plain f
  pub good : Each (Good last) f
  pub narrow : Narrow f
  pub few : last ≤ 8000000

-- no more clauses than words
clauses-few : (f : List (List ℕ)) → lists.All NonEmpty f → length f ≤ words f
unfolding words
clauses-few [] n = omega arith
clauses-few ([] ∷ f) n = absurd n.0
clauses-few ((l ∷ ls) ∷ f) n = omega (arith, clauses-few f n.1)

storable : (last : ℕ) (f : List (List ℕ)) → last ≤ 8000000 → words f ≤ 4294967295 → lists.All NonEmpty f
    → lists.All (lists.All (Proper (last + 1))) f → Storable last f
storable last f h k n a =
    record {
      plain = plain (last + 1) (omega arith) f n a;
      good = each_good last f a;
      narrow = record { few_clauses = omega (arith, clauses-few f n); few_words = k };
      few = h;
    }

-- the formula of an accepted instance, without and with the tail for a bound
module _ (i : Instance) (v : ValidInstance i) where
  pub hard_storable : variables i ≤ 8000000 → Storable (variables i) (hard_of i)
  hard_storable h = storable (variables i) (hard_of i) h (hard_words i v h) (formula-nonempty i) (formula-literals i v)

  pub bounded_storable : (B : ℕ) → bounded_variables i B ≤ 8000000 → Storable (bounded_variables i B) (bounded_hard i B)
  bounded_storable B h = storable (bounded_variables i B) (bounded_hard i B) h (bounded_words i v B h) (bounded-nonempty i B) (bounded-literals i v B)
