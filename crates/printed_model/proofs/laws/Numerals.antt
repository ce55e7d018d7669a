-- Decimal digits read as a number give that number back, so a literal's text read as a word is that literal.
use mathlib.Core.Path.{◌≡◌, refl, ap, ◌∙◌}
use mathlib.Core.Bool.{Bool, true, false, cond, ◌&&◌}
use mathlib.Core.List.{List, [], ◌∷◌, ◌++◌}
use mathlib.Core.Option.{none, some}
use Prim.Native.Nat.{ℕ, zero, suc, ◌+◌, ◌-◌, ◌*◌, ◌/◌, ◌%◌, ◌^◌, ◌≤◌, ◌<◌}
use native.Mathlib.Omega.{arith}
use lib.Dec.{leb, ltb, eqb}
use borrow.Author.Tests.{ltb-true, ltb-false, eqb-true, eqb-false, lt-ltb, le-leb, ne_eqb}
use Rattle.laws.specs.Booleans.{impossible}
use Rattle.laws.specs.Lists.{All, All-append, All-weaken}
use Rattle.scope.specs.Cnf.{pos}
use Rattle.scope.specs.Formula.{most_variables}
use Rattle.scope.specs.Text.{digits, decimal}
use Rattle.scope.specs.SolverText.{numeral, variable_in, literal, word_of}

-- one digit after those whose value is a
numeral-digit : (a d : ℕ) → d < 10 → numeral a ((48 + d) ∷ []) ≡ some (10 * a + d)
unfolding numeral
numeral-digit a d h =
    rw (le-leb 48 (48 + d) (omega arith), le-leb (48 + d) 57 (omega arith)) (ap some (omega arith))

-- digits whose value is v, and what follows them
numeral-append : (a : ℕ) (xs ys : List ℕ) {v : ℕ} → numeral a xs ≡ some v → numeral a (xs ++ ys) ≡ numeral v ys
unfolding numeral
numeral-append a [] ys {v} e = let q : a ≡ v = cc in rw q
numeral-append a (x ∷ xs) ys {v} e =
    go (leb 48 x && leb x 57) (numeral-append (10 * a + (x - 48)) xs ys) e
  where
    go : (t : Bool) → (numeral (10 * a + (x - 48)) xs ≡ some v → numeral (10 * a + (x - 48)) (xs ++ ys) ≡ numeral v ys)
        → cond t (numeral (10 * a + (x - 48)) xs) none ≡ some v
        → cond t (numeral (10 * a + (x - 48)) (xs ++ ys)) none ≡ numeral v ys
    go true ih e = ih e
    go false ih e = impossible (cc e)

numeral-digits : (f v : ℕ) → v < 10 ^ suc f → numeral 0 (digits f v) ≡ some v
unfolding digits
numeral-digits zero v h = numeral-digit 0 (v % 10) (omega arith) ∙ ap some (omega arith)
numeral-digits (suc f) v h = go (ltb v 10) refl (numeral-digits f (v / 10) (omega arith))
  where
    go : (t : Bool) → ltb v 10 ≡ t → numeral 0 (digits f (v / 10)) ≡ some (v / 10)
        → numeral 0 (cond t [] (digits f (v / 10)) ++ (48 + v % 10) ∷ []) ≡ some v
    go true e ih = numeral-digit 0 (v % 10) (omega arith) ∙ ap some (omega (arith, ltb-true v 10 e))
    go false e ih =
        numeral-append 0 (digits f (v / 10)) ((48 + v % 10) ∷ []) ih
        ∙ numeral-digit (v / 10) (v % 10) (omega arith)
        ∙ ap some (omega arith)

abbrev Digit : ℕ → Type 0
Digit b = (48 ≤ b) × (b ≤ 57)

digits-all : (f v : ℕ) → All Digit (digits f v)
unfolding digits
digits-all zero v = ((omega arith, omega arith), tt)
digits-all (suc f) v = go (ltb v 10) (digits-all f (v / 10))
  where
    go : (t : Bool) → All Digit (digits f (v / 10)) → All Digit (cond t [] (digits f (v / 10)) ++ (48 + v % 10) ∷ [])
    go true h = ((omega arith, omega arith), tt)
    go false h = All-append Digit (digits f (v / 10)) ((48 + v % 10) ∷ []) h ((omega arith, omega arith), tt)

-- the first byte is above 48, so there are no leading zeros
abbrev Leads : List ℕ → Type 0
Leads [] = ⊥
Leads (b ∷ bs) = 48 < b

leads-append : (xs ys : List ℕ) → Leads xs → Leads (xs ++ ys)
leads-append [] ys h = absurd h
leads-append (x ∷ xs) ys h = h

digits-lead : (f v : ℕ) → 1 ≤ v → v < 10 ^ suc f → Leads (digits f v)
unfolding digits
digits-lead zero v l h = omega arith
digits-lead (suc f) v l h = go (ltb v 10) refl (λ k. digits-lead f (v / 10) k (omega arith))
  where
    go : (t : Bool) → ltb v 10 ≡ t → (1 ≤ v / 10 → Leads (digits f (v / 10)))
        → Leads (cond t [] (digits f (v / 10)) ++ (48 + v % 10) ∷ [])
    go true e ih = omega (arith, ltb-true v 10 e)
    go false e ih =
        leads-append (digits f (v / 10)) ((48 + v % 10) ∷ []) (ih (omega (arith, ltb-false v 10 e)))

-- a variable's digits, in a formula with n variables
variable-read : (n v : ℕ) (xs : List ℕ) → Leads xs → numeral 0 xs ≡ some v → v ≤ n → variable_in n xs ≡ some v
variable-read n v [] h e l = absurd h
variable-read n v (b ∷ bs) h e l = rw (lt-ltb 48 b h, e, le-leb v n l)

word_read : (n v : ℕ) (xs : List ℕ) → Leads xs → variable_in n xs ≡ some v → word_of n xs ≡ literal (pos v)
unfolding word_of
word_read n v [] h e = absurd h
word_read n v (b ∷ bs) h e = rw (ne_eqb b 45 (λ q. omega arith), ne_eqb b 48 (λ q. omega arith), e)

-- a literal of a variable from 1 to n
abbrev pub Within : ℕ → ℕ → Type 0
Within n l = (1 ≤ l / 2) × (l / 2 ≤ n)

-- a literal's text without the space after it
abbrev pub spelled : ℕ → List ℕ
spelled l = cond (eqb (l % 2) 1) (45 ∷ []) [] ++ decimal (l / 2)

pub spelled-read : (n l : ℕ) → n ≤ most_variables → Within n l → word_of n (spelled l) ≡ literal l
unfolding word_of
spelled-read n l k h = go (eqb (l % 2) 1) refl
  where
    v : ℕ
    v = l / 2

    first : Leads (decimal v)
    first = digits-lead 19 v h.0 (omega arith)

    read : variable_in n (decimal v) ≡ some v
    read = variable-read n v (decimal v) first (numeral-digits 19 v (omega arith)) h.1

    go : (t : Bool) → eqb (l % 2) 1 ≡ t → word_of n (cond t (45 ∷ []) [] ++ decimal v) ≡ literal l
    go true e = rw read (ap literal (omega (arith, eqb-true (l % 2) 1 e)))
    go false e = word_read n v (decimal v) first read ∙ ap literal (omega (arith, eqb-false (l % 2) 1 e))

-- its bytes, a minus and digits, lie between those two
abbrev pub Spelling : ℕ → Type 0
Spelling b = (45 ≤ b) × (b ≤ 57)

pub spelled-bytes : (l : ℕ) → All Spelling (spelled l)
spelled-bytes l =
    go (eqb (l % 2) 1) (All-weaken Digit Spelling (λ b h. (omega arith, h.1)) (decimal (l / 2)) (digits-all 19 (l / 2)))
  where
    go : (t : Bool) → All Spelling (decimal (l / 2)) → All Spelling (cond t (45 ∷ []) [] ++ decimal (l / 2))
    go true h = ((omega arith, omega arith), h)
    go false h = h
