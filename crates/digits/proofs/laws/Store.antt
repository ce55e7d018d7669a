-- A lent output with a position: what a store does, and what a run of stores that fits leaves: laws.
use mathlib.Core.Path.{◌≡◌, refl, ap, ◌∙◌, sym}
use mathlib.Core.List.{List, [], ◌∷◌, ◌++◌}
use Prim.Native.Nat.{ℕ, suc, ◌+◌, ◌≤◌}
use native.Mathlib.Nat.{add-zero}
use native.Mathlib.Omega.{arith}
use lib.ListN.{length, set, take, drop, length-set}
use lib.Seq.{sets, sets-eq}
use Rattle.digits.specs.Run.{run, Ran}
use Rattle.digits.specs.Store.{out, further, put}

-- a run of stores whose position does not stop
pub run-sets : (xs l : List ℕ) (a : ℕ) → a + length xs ≤ 9223372036854775807 → run put xs (out a l) ≡ out (a + length xs) (sets l a xs)
run-sets [] l a h = rw add-zero
run-sets (x ∷ xs) l a h =
    let e : further a 1 ≡ suc a = omega arith in
    rw e (run-sets xs (set l a x) (suc a) (omega arith) ∙ ap (λ (n : ℕ). out n (sets (set l a x) (suc a) xs)) (omega arith))

-- stores made at once are a run of stores
pub ran-sets : (xs l : List ℕ) (a b : ℕ) → a + length xs ≤ 9223372036854775807 → b ≡ a + length xs → Ran put xs (out a l) (out b (sets l a xs))
ran-sets xs l a b h e = record { eq = rw e (sym (run-sets xs l a h)) }

-- a run of stores that fits: they stand from the position on, and all else is as it was
pub run_fits : (xs l : List ℕ) (a : ℕ) → a + length xs ≤ length l → length l ≤ 9223372036854775807
    → run put xs (out a l) ≡ out (a + length xs) (take a l ++ xs ++ drop (a + length xs) l)
run_fits xs l a h g = run-sets xs l a (omega arith) ∙ ap (out (a + length xs)) (sets-eq xs l a h)

-- a position counts the stores, whatever the output
pub run_at : (xs l : List ℕ) (a : ℕ) → a ≤ 9223372036854775807 → (run put xs (out a l)).at ≡ further a (length xs)
run_at [] l a h = omega arith
run_at (x ∷ xs) l a h = run_at xs (set l a x) (further a 1) (omega arith) ∙ omega arith

-- stores keep the length
pub run_length : (xs l : List ℕ) (a : ℕ) → length (run put xs (out a l)).buf ≡ length l
run_length [] l a = refl
run_length (x ∷ xs) l a = run_length xs (set l a x) (further a 1) ∙ length-set l a x

-- moving on twice
pub further-further : (a m n : ℕ) → further (further a m) n ≡ further a (m + n)
further-further a m n = omega arith
