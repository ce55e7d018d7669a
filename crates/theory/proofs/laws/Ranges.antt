-- Numbers from one on: their laws, and how many of them are within a count.
use mathlib.Core.Path.{◌≡◌, refl, sym, ap, ◌∙◌}
use mathlib.Core.Bool.{Bool, true, false, not, ◌&&◌, cond}
use mathlib.Core.List.{List, [], ◌∷◌, map}
use Prim.Native.Nat.{ℕ, zero, suc, ◌+◌, ◌-◌, ◌<◌, ◌≤◌, min, max}
use native.Mathlib.Nat.{add-zero}
use native.Mathlib.Omega.{arith}
use lib.Dec.{leb}
use lib.ListN.{length, get_or}
use borrow.Author.Tests.{leb-true, leb-false}
use Rattle.laws.specs.Lists.{All}
use Rattle.scope.specs.Kinds.{from}
use Rattle.scope.specs.Score.{trues}

-- how many; each of them; the one at a place
pub length_from_lem : (n k : ℕ) → length (from n k) ≡ k
unfolding from
length_from_lem n zero = refl
length_from_lem n (suc k) = ap suc (length_from_lem (suc n) k)

pub from_all : (P : ℕ → Type 0) (n k : ℕ) → ((i : ℕ) → n ≤ i → i < n + k → P i) → All P (from n k)
unfolding from
from_all P n zero h = tt
from_all P n (suc k) h = (h n (omega arith) (omega arith), from_all P (suc n) k (λ i a b. h i (omega arith) (omega arith)))

pub get_d-from : (d n k i : ℕ) → i < k → get_or (from n k) i d ≡ n + i
unfolding from
get_d-from d n zero i l = let f : ⊥ = omega arith in absurd f
get_d-from d n (suc k) zero l = sym (add-zero n)
get_d-from d n (suc k) (suc i) l = get_d-from d (suc n) k i (omega arith) ∙ omega arith

-- how many of the numbers n, .. , n + k − 1 are above c, and how many are up to c
pub count-above : (c n k : ℕ) → trues (map (λ i. not (leb i c)) (from n k)) ≡ n + k - max n (suc c)
unfolding from trues
count-above c n zero = omega arith
count-above c n (suc k) = rw (count-above c (suc n) k) (go (leb n c) refl)
  where
    go : (b : Bool) → leb n c ≡ b → cond (not b) 1 0 + (suc n + k - max (suc n) (suc c)) ≡ n + suc k - max n (suc c)
    go true e = omega (arith, leb-true n c e)
    go false e = omega (arith, leb-false n c e)

pub count-upto : (c n k : ℕ) → trues (map (λ i. leb i c) (from n k)) ≡ min (n + k) (suc c) - n
unfolding from trues
count-upto c n zero = omega arith
count-upto c n (suc k) = rw (count-upto c (suc n) k) (go (leb n c) refl)
  where
    go : (b : Bool) → leb n c ≡ b → cond b 1 0 + (min (suc n + k) (suc c) - suc n) ≡ min (n + suc k) (suc c) - n
    go true e = omega (arith, leb-true n c e)
    go false e = omega (arith, leb-false n c e)

-- none of them is true
pub trues-none : (xs : List ℕ) → trues (map (λ i. false) xs) ≡ 0
unfolding trues
trues-none [] = refl
trues-none (x ∷ xs) = rw (trues-none xs)

-- above c, and c at least 1
pub count-short : (c n k : ℕ) → trues (map (λ i. leb 1 c && not (leb i c)) (from n k)) ≡ cond (leb 1 c) (n + k - max n (suc c)) 0
count-short c n k = go (leb 1 c)
  where
    go : (b : Bool) → trues (map (λ i. b && not (leb i c)) (from n k)) ≡ cond b (n + k - max n (suc c)) 0
    go true = count-above c n k
    go false = trues-none (from n k)
