-- The last digits of a number, and how many digits it has: laws.
use mathlib.Core.Path.{◌≡◌, refl, ap, ◌∙◌}
use mathlib.Core.Bool.{Bool, true, false, cond}
use mathlib.Core.List.{List, [], ◌∷◌, ◌++◌}
use Prim.Native.Nat.{ℕ, zero, suc, ◌+◌, ◌-◌, ◌/◌, ◌%◌, ◌^◌, ◌≤◌, ◌<◌}
use native.Mathlib.Nat.{one-le-pow}
use native.Mathlib.Numerals.{sub-one}
use native.Mathlib.Omega.{arith}
use lib.ListN.{length, length-append}
use lib.Dec.{ltb}
use borrow.Author.Tests.{lt-ltb, le-ltb, ltb-true, ltb-false}
use Rattle.scope.specs.Text.{digits}
use Rattle.digits.specs.Decimal.{last_digits}

pub last-length : (k n : ℕ) → length (last_digits k n) ≡ k
last-length zero n = refl
last-length (suc k) n = length-append (last_digits k (n / 10)) _ ∙ rw (last-length k (n / 10)) (omega arith)

-- there is a digit
pub digits-some : (f n : ℕ) → 0 < length (digits f n)
unfolding digits
digits-some zero n = omega arith
digits-some (suc f) n =
    omega (arith, length-append (cond (ltb n 10) [] (digits f (n / 10))) ((48 + n % 10) ∷ []))

-- the clauses of digits by the size of a number
pub digits-small : (f n : ℕ) → n < 10 → digits f n ≡ (48 + n % 10) ∷ []
unfolding digits
digits-small zero n h = refl
digits-small (suc f) n h = rw (lt-ltb n 10 h)

pub digits_more : (f n : ℕ) → 10 ≤ n → digits (suc f) n ≡ digits f (n / 10) ++ (48 + n % 10) ∷ []
unfolding digits
digits_more f n h = rw (le-ltb n 10 h)

-- the same for a count that is a local
pub digits-none : (f n : ℕ) → f ≡ 0 → digits f n ≡ (48 + n % 10) ∷ []
unfolding digits
digits-none f n h = rw h

pub digits-next : (f n : ℕ) → (f ≡ 0 → ⊥) → 10 ≤ n → digits f n ≡ digits (f - 1) (n / 10) ++ (48 + n % 10) ∷ []
digits-next zero n z h = absurd (z refl)
digits-next (suc f) n z h = rw sub-one (digits_more f n h)

-- a number's digits are its last ones, as many as there are
pub digits_last : (f n : ℕ) → digits f n ≡ last_digits (length (digits f n)) n
unfolding digits
digits_last zero n = refl
digits_last (suc f) n = go (ltb n 10) refl (digits_last f (n / 10))
  where
    go : (t : Bool) → ltb n 10 ≡ t → digits f (n / 10) ≡ last_digits (length (digits f (n / 10))) (n / 10)
        → digits (suc f) n ≡ last_digits (length (digits (suc f) n)) n
    go true e ih = rw (digits-small (suc f) n (ltb-true n 10 e))
    go false e ih =
        let m : digits (suc f) n ≡ digits f (n / 10) ++ (48 + n % 10) ∷ [] = digits_more f n (ltb-false n 10 e) in
        let l : length (digits f (n / 10) ++ (48 + n % 10) ∷ []) ≡ suc (length (digits f (n / 10))) =
        length-append (digits f (n / 10)) _ ∙ omega arith in
        rw (m, l) (ap (λ (xs : List ℕ). xs ++ (48 + n % 10) ∷ []) ih)

-- a number from 10 ^ k on, but below 10 ^ (k + 1), has k + 1 digits
pub digits-length : (k f n : ℕ) → k ≤ f → 10 ^ k ≤ n → n < 10 ^ suc k → length (digits f n) ≡ suc k
digits-length zero f n h a b = rw (digits-small f n (omega arith))
digits-length (suc k) zero n h a b = absurd (omega arith)
digits-length (suc k) (suc f) n h a b =
    let p : 0 < 10 ^ k = one-le-pow k 10 (omega arith) in
    let ih : length (digits f (n / 10)) ≡ suc k = digits-length k f (n / 10) (omega arith) (omega arith) (omega arith) in
    rw (digits_more f n (omega arith)) (length-append (digits f (n / 10)) _ ∙ omega arith)

-- and one below 10 ^ (k + 1) has at most that many
pub digits-most : (k f n : ℕ) → n < 10 ^ suc k → length (digits f n) ≤ suc k
unfolding digits
digits-most k zero n h = omega arith
digits-most zero (suc f) n h = rw (digits-small (suc f) n (omega arith)) (omega arith)
digits-most (suc k) (suc f) n h = go (ltb n 10) refl (digits-most k f (n / 10) (omega arith))
  where
    go : (t : Bool) → ltb n 10 ≡ t → length (digits f (n / 10)) ≤ suc k → length (digits (suc f) n) ≤ suc (suc k)
    go true e ih = rw (digits-small (suc f) n (ltb-true n 10 e)) (omega arith)
    go false e ih =
        rw (digits_more f n (ltb-false n 10 e)) (omega (arith, length-append (digits f (n / 10)) ((48 + n % 10) ∷ [])))
