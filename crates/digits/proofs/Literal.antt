-- A number and a literal as runs of stores.
use mathlib.Core.Path.{◌≡◌, refl, ap, ◌∙◌}
use mathlib.Core.Bool.{Bool, true, false}
use mathlib.Core.List.{List, [], ◌∷◌, ◌++◌, append_assoc}
use Prim.Native.Nat.{ℕ, ◌+◌, ◌-◌, ◌/◌, ◌%◌, ◌≤◌, ◌<◌}
use native.Mathlib.Omega.{arith}
use lib.ListN.{length, set, length-append}
use lib.Seq.{sets, set-set}
use lib.Dec.{eqb}
use borrow.Author.Tests.{eq-eqb, ne_eqb, eqb-true, eqb-false}
use Rattle.scope.specs.Text.{decimal, space, literal_text}
use Rattle.digits.specs.Run.{run, Ran, then, same}
use Rattle.digits.specs.Store.{Out, out, put, further}
use Rattle.digits.proofs.laws.Store.{ran-sets, run_at}
use Rattle.digits.specs.Decimal.{last_digits}
use Rattle.digits.proofs.laws.Decimal.{digits_last}

-- digits written at once are a run of stores
pub number-ran : (v a n : ℕ) (l : List ℕ) {l' : List ℕ} → n ≡ length (decimal v) → a + n ≤ 9223372036854775807
    → l' ≡ sets l a (last_digits (a + n - a) v) → Ran put (decimal v) (out a l) (out (a + n) l')
number-ran v a n l e h p =
    let k : a + n - a ≡ length (decimal v) = omega arith in
    rw (p, k, ← digits_last 19 v) (ran-sets (decimal v) l a (a + n) (omega arith) (omega arith))

-- a literal's text by its sign
pub literal-negative : (l : ℕ) → l % 2 ≡ 1 → literal_text l ≡ (45 ∷ []) ++ (decimal (l / 2) ++ space)
unfolding literal_text
literal-negative l h = rw (eq-eqb (l % 2) 1 h) (append_assoc (45 ∷ []) (decimal (l / 2)) space)

pub literal-positive : (l : ℕ) → (l % 2 ≡ 1 → ⊥) → literal_text l ≡ decimal (l / 2) ++ space
unfolding literal_text
literal-positive l h = rw (ne_eqb (l % 2) 1 h)

-- one store within the range of positions
one : (x a : ℕ) (l : List ℕ) → a < 9223372036854775807 → Ran put (x ∷ []) (out a l) (out (a + 1) (set l a x))
one x a l h = ran-sets (x ∷ []) l a (a + 1) (omega arith) (omega arith)

-- what is stored first at the position is stored over
over : (xs l : List ℕ) (a y : ℕ) {o : Out} → 0 < length xs → Ran put xs (out a (set l a y)) o → Ran put xs (out a l) o
over [] l a y h p = absurd (omega arith)
over (x ∷ xs) l a y h p = record { eq = p.eq ∙ ap (λ (k : List ℕ). run put xs (out (further a 1) k)) (set-set l a y x) }

-- a sign, and the number with a space after it or over it
pub signed-ran : (l a : ℕ) (t : List ℕ) {o : Out} → a < 9223372036854775807
    → Ran put (decimal (l / 2) ++ space) (out (a + l % 2) (set t a 45)) o → Ran put (literal_text l) (out a t) o
signed-ran l a t {o} h p = go (eqb (l % 2) 1) refl
  where
    go : (s : Bool) → eqb (l % 2) 1 ≡ s → Ran put (literal_text l) (out a t) o
    go true e =
        let m : l % 2 ≡ 1 = eqb-true (l % 2) 1 e in
        same (literal-negative l m) (then (one 45 a t h) (rw m at p))
    go false e =
        let m : a + l % 2 ≡ a = omega (arith, eqb-false (l % 2) 1 e) in
        let some : 0 < length (decimal (l / 2) ++ space) = omega (arith, length-append (decimal (l / 2)) space) in
        same (literal-positive l (eqb-false (l % 2) 1 e)) (over (decimal (l / 2) ++ space) t a 45 some (rw m at p))

pub literal-ran : (l a b : ℕ) (t t' : List ℕ) → a < 9223372036854775807 → b < 9223372036854775807
    → Ran put (decimal (l / 2)) (out (a + l % 2) (set t a 45)) (out b t') → Ran put (literal_text l) (out a t) (out (b + 1) (set t' b 32))
literal-ran l a b t t' h g p = signed-ran l a t h (then p (one 32 b t' g))

-- how long a literal's text is
pub literal-length : (l : ℕ) → length (literal_text l) ≡ length (decimal (l / 2)) + 1 + l % 2
unfolding literal_text
literal-length l = go (eqb (l % 2) 1) refl
  where
    go : (s : Bool) → eqb (l % 2) 1 ≡ s → length (literal_text l) ≡ length (decimal (l / 2)) + 1 + l % 2
    go true e =
        let m : l % 2 ≡ 1 = eqb-true (l % 2) 1 e in
        rw (literal-negative l m) (omega (arith, length-append (decimal (l / 2)) space))
    go false e =
        rw (literal-positive l (eqb-false (l % 2) 1 e))
        (omega (arith, length-append (decimal (l / 2)) space, eqb-false (l % 2) 1 e))

-- the position after stores from the start of an output says how many there were
pub size-ran : (xs l l' : List ℕ) (n : ℕ) → length xs ≤ 9223372036854775807 → Ran put xs (out 0 l) (out n l') → n ≡ length xs
size-ran xs l l' n h p = ap (λ (o : Out). o.at) p.eq ∙ run_at xs l 0 (omega arith) ∙ omega arith
