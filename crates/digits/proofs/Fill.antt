-- Digits written backwards: what one turn leaves to be written.
use mathlib.Core.Path.{◌≡◌, refl, ap, ◌∙◌}
use mathlib.Core.List.{List, [], ◌∷◌, ◌++◌}
use Prim.Native.Nat.{ℕ, suc, ◌+◌, ◌-◌, ◌/◌, ◌%◌, ◌≤◌, ◌<◌}
use native.Mathlib.Nat.{add-zero}
use native.Mathlib.Omega.{arith}
use lib.ListN.{length, set}
use lib.Seq.{sets, set_comm}
use Rattle.digits.specs.Decimal.{last_digits}
use Rattle.digits.proofs.laws.Decimal.{last-length}

-- a store past a run of stores may come first
past : (xs l : List ℕ) (a i y : ℕ) → a + length xs ≤ i → set (sets l a xs) i y ≡ sets (set l i y) a xs
past [] l a i y h = refl
past (x ∷ xs) l a i y h =
    past xs (set l a x) (suc a) i y (omega arith)
    ∙ ap (λ (k : List ℕ). sets k (suc a) xs) (set_comm l a i x y (λ e. omega arith))

sets-snoc : (xs l : List ℕ) (a y : ℕ) → sets l a (xs ++ y ∷ []) ≡ set (sets l a xs) (a + length xs) y
sets-snoc [] l a y = rw add-zero
sets-snoc (x ∷ xs) l a y =
    sets-snoc xs (set l a x) (suc a) y ∙ ap (λ (n : ℕ). set (sets (set l a x) (suc a) xs) n y) (omega arith)

-- the last digit first
pub fill_one : (l : List ℕ) (a m x : ℕ) → sets l a (last_digits (suc m) x) ≡ sets (set l (a + m) (48 + x % 10)) a (last_digits m (x / 10))
fill_one l a m x =
    let n : length (last_digits m (x / 10)) ≡ m = last-length m (x / 10) in
    sets-snoc (last_digits m (x / 10)) l a (48 + x % 10)
    ∙ rw n (past (last_digits m (x / 10)) l a (a + m) (48 + x % 10) (omega arith))

-- one turn: two digits before i
pub fill-turn : (l : List ℕ) (a i x : ℕ) → a + 1 < i
    → sets l a (last_digits (i - a) x)
    ≡ sets (set (set l (i - 2 + 1) (48 + x % 100 % 10)) (i - 2) (48 + x % 100 / 10)) a (last_digits (i - 2 - a) (x / 100))
fill-turn l a i x h =
    let m : i - a ≡ suc (suc (i - 2 - a)) = omega arith in
    let p : a + suc (i - 2 - a) ≡ i - 2 + 1 = omega arith in
    let q : a + (i - 2 - a) ≡ i - 2 = omega arith in
    let d : x % 100 % 10 ≡ x % 10 = omega arith in
    let e : x % 100 / 10 ≡ x / 10 % 10 = omega arith in
    let f : x / 100 ≡ x / 10 / 10 = omega arith in
    rw (m, d, e, f)
    (fill_one l a (suc (i - 2 - a)) x
    ∙ rw p (fill_one (set l (i - 2 + 1) (48 + x % 10)) a (i - 2 - a) (x / 10) ∙ rw q))

-- the end: one digit or none
pub fill-last : (l : List ℕ) (a i x : ℕ) → a < i → i ≤ a + 1 → sets l a (last_digits (i - a) x) ≡ set l a (48 + x % 10)
fill-last l a i x h g = let m : i - a ≡ 1 = omega arith in rw m

pub fill_none : (l : List ℕ) (a i x : ℕ) → i ≤ a → sets l a (last_digits (i - a) x) ≡ l
fill_none l a i x h = let m : i - a ≡ 0 = omega arith in rw m
