-- Laws of counts of true entries and of deviations.
use Prim.Native.Nat.{ℕ, ◌-◌}
use mathlib.Core.Path.{◌≡◌, refl, ap, ◌∙◌}
use mathlib.Core.Bool.{Bool, cond}
use mathlib.Core.List.{List, [], ◌∷◌, map, sum}
use lib.Dec.{eqb}
use native.Mathlib.Omega.{arith}
use native.Mathlib.Nat.{add-zero}
use borrow.Author.Tests.{lt-ltb, le-ltb}
use Rattle.scope.specs.Kinds.{Atom, Entry, entries, rule, between, limit}
use Rattle.scope.specs.Score.{trues, deviation, charged, count, deviations}
use Rattle.theory.proofs.laws.Entries.{entry_true, entries_count}
use Rattle.theory.proofs.laws.Lowered.{by_order, charged-lowered}
use Rattle.deviation.specs.Sums.{total}

-- a count of tests is a sum of 1s
pub trues-total : (f : ℕ → Bool) (xs : List ℕ) → trues (map f xs) ≡ total (λ x. cond (f x) 1 0) xs
unfolding trues sum
trues-total f [] = refl
trues-total f (x ∷ xs) = rw (trues-total f xs)

-- a count where one is free of charge
pub deviation-one : (c : ℕ) → deviation 0 1 c ≡ c - 1
unfolding deviation
deviation-one c =
    rw (le-ltb c 0 (omega arith))
    (by_order _ 1 c (λ l. rw (lt-ltb 1 c l)) (λ l. rw (le-ltb 1 c l) (omega arith)))

-- what one list charges
module _ (τ : Atom → Bool) where
  between_charged : (lo hi : ℕ) (l : List Entry)
      → charged (rule (between lo hi []) (entries l)) (count τ (entries l)) ≡ deviation lo hi (trues (map (entry_true τ) l))
  between_charged lo hi l = charged-lowered τ (between lo hi []) (entries l) ∙ ap (deviation lo hi) (entries_count τ l)

  pub one_list : (lo hi : ℕ) (l : List Entry)
      → deviations τ (rule (between lo hi []) (entries l) ∷ []) ≡ deviation lo hi (trues (map (entry_true τ) l))
  unfolding deviations
  one_list lo hi l = rw add-zero (between_charged lo hi l)

  pub one_limit : (lo hi : ℕ) (l : List Entry)
      → deviations τ (rule (limit lo hi []) (entries l) ∷ [])
      ≡ cond (eqb (trues (map (entry_true τ) l)) 0) 0 (deviation lo hi (trues (map (entry_true τ) l)))
  unfolding deviations
  one_limit lo hi l = rw add-zero (charged-lowered τ (limit lo hi []) (entries l) ∙ rw (entries_count τ l))

  -- lists with the same bounds, one for each number
  pub many_lists : (lo hi : ℕ) (f : ℕ → List Entry) (xs : List ℕ)
      → deviations τ (map (rule (between lo hi [])) (map (λ x. entries (f x)) xs))
      ≡ total (λ x. deviation lo hi (trues (map (entry_true τ) (f x)))) xs
  unfolding deviations sum
  many_lists lo hi f [] = refl
  many_lists lo hi f (x ∷ xs) = rw (between_charged lo hi (f x), many_lists lo hi f xs)
