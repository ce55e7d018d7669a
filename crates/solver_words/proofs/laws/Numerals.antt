-- A number in decimal digits, digit by digit.
use Prim.Native.Nat.{ℕ, suc, ◌+◌, ◌-◌, ◌*◌, ◌≤◌, ◌<◌}
use mathlib.Core.Path.{◌≡◌, refl, sym, ◌∙◌}
use mathlib.Core.Bool.{Bool, true, false, ◌&&◌, ◌||◌, cond}
use mathlib.Core.List.{List, [], ◌∷◌}
use mathlib.Core.Option.{Option, none, some}
use native.Mathlib.Omega.{arith}
use lib.Dec.{leb, eqb}
use lib.ListN.{length, get_or}
use borrow.Author.Tests.{le-leb, lt-leb, eqb-true, eqb-false}
use Rattle.laws.specs.Booleans.{impossible}
use Rattle.scope.specs.SolverText.{numeral, at_most}
use Rattle.std.specs.Prelude.{Some, None}
use Rattle.solver_words.specs.Reading.{word_from, numeral_from, variable_said, ended_by}
use Rattle.solver_words.proofs.laws.Words.{word_space, word_line_end, word_more}

-- a further digit makes no number smaller
pub numeral-grows : (v : ℕ) (w : List ℕ) {x : ℕ} → numeral v w ≡ some x → v ≤ x
unfolding numeral
numeral-grows v [] {x} e = let z : v ≡ x = cc in omega arith
numeral-grows v (b ∷ w) {x} e = go (leb 48 b && leb b 57) (λ f. numeral-grows (10 * v + (b - 48)) w f) e
  where
    go : (t : Bool) → (numeral (10 * v + (b - 48)) w ≡ some x → 10 * v + (b - 48) ≤ x)
        → cond t (numeral (10 * v + (b - 48)) w) none ≡ some x
        → v ≤ x
    go true h f = omega (arith, h f)
    go false h f = impossible (cc)

-- so one that is too large stays too large
too_large : (n v : ℕ) (w : List ℕ) → n < v → at_most n (numeral v w) ≡ none
too_large n v w h = go (numeral v w) refl
  where
    go : (o : Option ℕ) → numeral v w ≡ o → at_most n o ≡ none
    go none e = refl
    go (some x) e = rw (lt-leb x n (omega (arith, numeral-grows v w e)))

module _ (n : ℕ) (s : List ℕ) (v at : ℕ) {whole : Option (ℕ × ℕ)} (so_far : whole ≡ numeral_from n s v at) where
  -- the word's end
  pub numeral_end : word_from s at ≡ [] → v ≤ n → some (v, at) ≡ whole
  unfolding numeral
  numeral_end e h = let z : at + 0 ≡ at = omega arith in sym (so_far ∙ rw (e, le-leb v n h, z))

  -- no digit
  numeral_low : at < length s → (get_or s at 0 ≡ 32 → ⊥) → (get_or s at 0 ≡ 10 → ⊥) → get_or s at 0 < 48 → none ≡ whole
  unfolding numeral
  numeral_low h d e l = sym (so_far ∙ rw (word_more s at h d e, lt-leb 48 (get_or s at 0) l))

  -- a byte below the digits
  pub numeral_below : at < length s → get_or s at 0 < 48 → v ≤ n → variable_said (ended_by (get_or s at 0) v at) ≡ whole
  numeral_below h l few = space (eqb (get_or s at 0) 32) refl
    where
      line : (t : Bool) → eqb (get_or s at 0) 10 ≡ t → (get_or s at 0 ≡ 32 → ⊥) → variable_said (cond t (Some (v, at)) None) ≡ whole
      line true e d = numeral_end (word_line_end s at h (eqb-true (get_or s at 0) 10 e)) few
      line false e d = numeral_low h d (eqb-false (get_or s at 0) 10 e) l

      space : (t : Bool) → eqb (get_or s at 0) 32 ≡ t → variable_said (cond (t || eqb (get_or s at 0) 10) (Some (v, at)) None) ≡ whole
      space true e = numeral_end (word_space s at h (eqb-true (get_or s at 0) 32 e)) few
      space false e = line (eqb (get_or s at 0) 10) refl (eqb-false (get_or s at 0) 32 e)

  pub numeral_high : at < length s → 57 < get_or s at 0 → none ≡ whole
  unfolding numeral
  numeral_high h l =
      let d : get_or s at 0 ≡ 32 → ⊥ = λ f. omega arith in
      let e : get_or s at 0 ≡ 10 → ⊥ = λ f. omega arith in
      sym (so_far ∙ rw (word_more s at h d e, le-leb 48 (get_or s at 0) (omega arith), lt-leb (get_or s at 0) 57 l))

  module _ (h : at < length s) (l : 48 ≤ get_or s at 0) (m : get_or s at 0 ≤ 57) where
    -- a digit
    pub numeral_more : whole ≡ numeral_from n s (10 * v + (get_or s at 0 - 48)) (at + 1)
    unfolding numeral
    numeral_more =
        let d : get_or s at 0 ≡ 32 → ⊥ = λ f. omega arith in
        let e : get_or s at 0 ≡ 10 → ⊥ = λ f. omega arith in
        let z : at + suc (length (word_from s (at + 1))) ≡ at + 1 + length (word_from s (at + 1)) = omega arith in
        so_far ∙ rw (word_more s at h d e, le-leb 48 (get_or s at 0) l, le-leb (get_or s at 0) 57 m, z)

    -- one digit too many
    pub numeral_over : n < 10 * v + (get_or s at 0 - 48) → none ≡ whole
    numeral_over o = sym (numeral_more ∙ rw (too_large n (10 * v + (get_or s at 0 - 48)) (word_from s (at + 1)) o))

pub ruleset numerals = (numeral_high, numeral_more, numeral_over)
