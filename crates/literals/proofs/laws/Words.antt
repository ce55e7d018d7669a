-- Lists at the front of a lent slice of words: laws.
use Prim.Native.Nat.{ℕ, ◌+◌, ◌<◌, ◌≤◌}
use mathlib.Core.Path.{◌≡◌, refl, ap, ◌∙◌}
use mathlib.Core.List.{List, [], ◌∷◌, ◌++◌}
use mathlib.Core.Bool.{Bool, true, false, cond}
use mir.Val.{bool_byte}
use lib.Dec.{eqb}
use lib.ListN.{length, get_or, drop, set, length-append, drop_of_length-le}
use lib.Seq.{take-suc-set, drop-cons}
use native.Mathlib.Omega.{arith}
use native.Mathlib.Numerals.{add-one}
use Rattle.literals.specs.Words.{Indicator, Holds, starts_with}

pub indicator-most : {b : Bool} {k : ℕ} → Indicator b k → k ≤ 1
indicator-most {b} o = rw o.is (by b)
  where
    by : (b : Bool) → cond b 1 0 ≤ 1
    by true = omega arith
    by false = omega arith

-- a test as a number
pub indicator-byte : {b t : Bool} {k : ℕ} → t ≡ b → k ≡ bool_byte t → Indicator b k
indicator-byte {b} e h = record { is = h ∙ rw e (by b) }
  where
    by : (b : Bool) → bool_byte b ≡ cond b 1 0
    by true = refl
    by false = refl

-- nothing, and one word more
pub holds-none : (words : List ℕ) → Holds words 0 []
holds-none words = record { count = refl; front = refl }

-- the same list, put otherwise
pub holds_as : {words : List ℕ} {n : ℕ} {xs ys : List ℕ} → xs ≡ ys → Holds words n xs → Holds words n ys
holds_as e h = record { count = h.count ∙ ap length e; front = h.front ∙ e }

pub holds_more : {words : List ℕ} {n : ℕ} {xs : List ℕ} → Holds words n xs → (x : ℕ) → n < length words → Holds (set words n x) (n + 1) (xs ++ (x ∷ []))
holds_more {words} {n} h x l =
    record {
      count = simp length-append (omega (arith, h.count));
      front = rw (add-one n, take-suc-set words n x l, h.front);
    }

module _ (x : ℕ) (l : List ℕ) (k : ℕ) where
  pub with_past : length l ≤ k → starts_with x (drop k l) ≡ false
  unfolding starts_with
  with_past h = rw (drop_of_length-le l h)

  -- where y is member k
  pub with_member : (y : ℕ) → k < length l → y ≡ get_or l k 0 → starts_with x (drop k l) ≡ eqb y x
  unfolding starts_with
  with_member y h e = rw (drop-cons l k 0 h, e)

pub cond-append : (b : Bool) (xs ys zs : List ℕ) → cond b (xs ++ zs) (ys ++ zs) ≡ cond b xs ys ++ zs
cond-append true xs ys zs = refl
cond-append false xs ys zs = refl
