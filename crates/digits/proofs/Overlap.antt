-- Stores that overlap: the start of a list, and then the list from a place within that start on.
use mathlib.Core.Path.{◌≡◌, refl, ap, ◌∙◌}
use mathlib.Core.List.{List, [], ◌∷◌}
use Prim.Native.Nat.{ℕ, zero, suc, ◌+◌, ◌≤◌, ◌<◌}
use native.Mathlib.Nat.{add-zero}
use native.Mathlib.Omega.{arith}
use lib.ListN.{set, take, drop}
use lib.Seq.{sets, set_comm, set-set}

-- a store before a run of stores may come first
before : (xs l : List ℕ) (a i y : ℕ) → i < a → set (sets l a xs) i y ≡ sets (set l i y) a xs
before [] l a i y h = refl
before (x ∷ xs) l a i y h =
    before xs (set l a x) (suc a) i y (omega arith)
    ∙ ap (λ (k : List ℕ). sets k (suc a) xs) (set_comm l a i x y (λ e. omega arith))

-- the start of a list, and then all of it
again : (m : ℕ) (xs l : List ℕ) (a : ℕ) → sets (sets l a (take m xs)) a xs ≡ sets l a xs
again zero xs l a = refl
again (suc m) [] l a = refl
again (suc m) (x ∷ xs) l a =
    ap (λ (k : List ℕ). sets k (suc a) xs)
    (before (take m xs) (set l a x) (suc a) a x (omega arith) ∙ ap (λ (k : List ℕ). sets k (suc a) (take m xs)) (set-set l a x x))
    ∙ again m xs (set l a x) (suc a)

pub overlap : (i m : ℕ) (xs l : List ℕ) (a : ℕ) → i ≤ m → sets (sets l a (take m xs)) (a + i) (drop i xs) ≡ sets l a xs
overlap zero m xs l a h = rw add-zero (again m xs l a)
overlap (suc i) zero xs l a h = absurd (omega arith)
overlap (suc i) (suc m) [] l a h = refl
overlap (suc i) (suc m) (x ∷ xs) l a h =
    let e : a + suc i ≡ suc a + i = omega arith in rw e (overlap i m xs (set l a x) (suc a) (omega arith))
