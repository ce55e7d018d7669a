-- A rule's hi is lowered to its list's length: a count is no more than that, so that the rule charges as hi was written.
use mathlib.Core.Path.{◌≡◌, refl, ap}
use mathlib.Core.Bool.{Bool, true, false, cond, ◌&&◌}
use mathlib.Core.List.{List, [], ◌∷◌, map}
use Prim.Native.Nat.{ℕ, ◌-◌, ◌<◌, ◌≤◌, min}
use native.Mathlib.Omega.{arith}
use lib.ListN.{length, length-map}
use lib.Dec.{ltb, eqb}
use borrow.Author.Tests.{ltb-true, ltb-false, le-ltb, lt-ltb}
use Rattle.scope.specs.Kinds.{Atom, Listed, Counted, rule}
use Rattle.scope.specs.Score.{trues, deviation, charged, ref_true, values_after, count}

one-most : (t : Bool) → cond t 1 0 ≤ 1
one-most true = omega arith
one-most false = omega arith

trues_most : (xs : List Bool) → trues xs ≤ length xs
unfolding trues
trues_most [] = omega arith
trues_most (x ∷ xs) = omega (arith, one-most x, trues_most xs)

count_most : (τ : Atom → Bool) (l : Listed) → count τ l ≤ length l.members
unfolding count
count_most τ l =
    let such = ref_true τ (values_after τ [] l.nodes) in
    omega (arith, trues_most (map such l.members), length-map l.members such)

pub by_order : (P : Type 0) (a b : ℕ) → (a < b → P) → (b ≤ a → P) → P
by_order P a b f g = go (ltb a b) refl
  where
    go : (t : Bool) → ltb a b ≡ t → P
    go true e = f (ltb-true a b e)
    go false e = g (ltb-false a b e)

-- with bounds 0 to 0 the deviation is the count
pub deviation-zero : (c : ℕ) → deviation 0 0 c ≡ c
unfolding deviation
deviation-zero c =
    rw (le-ltb c 0 (omega arith))
    (by_order _ 0 c (λ l. rw (lt-ltb 0 c l) (omega arith)) (λ l. rw (le-ltb 0 c l) (omega arith)))

deviation-lowered : (lo hi n c : ℕ) → c ≤ n → deviation lo (min hi n) c ≡ deviation lo hi c
unfolding deviation
deviation-lowered lo hi n c h =
    ap (cond (ltb c lo) (lo - c))
    (by_order _ hi c
    (λ l. let e : min hi n ≡ hi = omega arith in rw e)
    (λ l. rw (le-ltb (min hi n) c (omega arith), le-ltb hi c l)))

-- what is charged for a list's count, by lo and hi as written
pub charged-lowered : (τ : Atom → Bool) (c : Counted) (l : Listed)
    → charged (rule c l) (count τ l) ≡ cond (c.zero_free && eqb (count τ l) 0) 0 (deviation c.lo c.hi (count τ l))
unfolding charged
charged-lowered τ c l =
    ap (cond (c.zero_free && eqb (count τ l) 0) 0)
    (deviation-lowered c.lo c.hi (length l.members) (count τ l) (count_most τ l))
