-- Words by their first byte.
use Prim.Native.Nat.{ℕ, suc, ◌+◌, ◌-◌, ◌*◌, ◌/◌, ◌≤◌, ◌<◌}
use mathlib.Core.Path.{◌≡◌, refl, ap, ◌∙◌}
use mathlib.Core.Bool.{Bool, true, false, ◌&&◌, cond}
use mathlib.Core.List.{List, [], ◌∷◌}
use mathlib.Core.Option.{Option, none, some}
use native.Mathlib.Omega.{arith}
use lib.Dec.{leb, ltb, eqb}
use lib.ListN.{length, get_or}
use borrow.Author.Tests.{ne_eqb, eqb-true, eqb-false, lt-ltb, le-ltb, ltb-true, leb-true}
use Rattle.laws.specs.Booleans.{impossible}
use Rattle.scope.specs.Cnf.{pos, neg}
use Rattle.scope.specs.SolverText.{numeral, at_most, variable_in, literal_if, after_zero, word_of, literal}
use Rattle.std.specs.Prelude.{Some, None}
use Rattle.solver_words.specs.declared.word.Word.{Word}
use Rattle.solver_words.specs.Reading.{Variable, word_from, before, numeral_at, variable_at, variable_said, positive_of, negative_of, closed_by, closing_at, word_said, next_of, WordRead}
use Rattle.solver_words.proofs.laws.Words.{word_past, word_more, word_space, word_line_end}
use Rattle.solver_words.proofs.laws.Numerals.{numeral-grows}

-- a word is empty, or begins with the byte at its offset
by_first : (s : List ℕ) (at : ℕ) (P : List ℕ → Type 0) → at < length s → P [] → P (get_or s at 0 ∷ word_from s (at + 1)) → P (word_from s at)
by_first s at P h none_left some_left = go (eqb (get_or s at 0) 32) refl
  where
    more : (get_or s at 0 ≡ 32 → ⊥) → (x : Bool) → eqb (get_or s at 0) 10 ≡ x → P (word_from s at)
    more d true e = rw (word_line_end s at h (eqb-true (get_or s at 0) 10 e)) none_left
    more d false e = rw (word_more s at h d (eqb-false (get_or s at 0) 10 e)) some_left

    go : (x : Bool) → eqb (get_or s at 0) 32 ≡ x → P (word_from s at)
    go true e = rw (word_space s at h (eqb-true (get_or s at 0) 32 e)) none_left
    go false e = more (eqb-false (get_or s at 0) 32 e) (eqb (get_or s at 0) 10) refl

-- a variable begins with a digit that is not 0
module _ (n : ℕ) (s : List ℕ) (at : ℕ) where
  pub variable_past : length s ≤ at → none ≡ variable_at n s at
  variable_past h = rw (word_past s at h)

  pub variable_zero : at < length s → get_or s at 0 ≤ 48 → none ≡ variable_at n s at
  variable_zero h l =
      by_first s at (λ w. none ≡ before (variable_in n w) (at + length w)) h refl (rw (le-ltb 48 (get_or s at 0) l))

  pub variable_more : at < length s → 48 < get_or s at 0 → numeral_at n s at ≡ variable_at n s at
  variable_more h l =
      let d : get_or s at 0 ≡ 32 → ⊥ = λ f. omega arith in
      let e : get_or s at 0 ≡ 10 → ⊥ = λ f. omega arith in
      rw (word_more s at h d e, lt-ltb 48 (get_or s at 0) l)

-- a variable that was read, with its sign and the offset e after it
record Signed (w : Word) (sign : ℕ → ℕ) (o : Option ℕ) (e : ℕ) : Type 0 where
  said : word_said w ≡ literal_if sign o
  ends : next_of w e ≡ e

positive-read : (v : Variable) (o : Option ℕ) (e : ℕ) → variable_said v ≡ before o e → Signed (positive_of v) pos o e
positive-read (Some (x, next)) none e h = impossible (cc)
positive-read (Some (x, next)) (some y) e h =
    let q : ◌≡◌ {A = ℕ × ℕ} (x, next) (y, e) = cc in
    let a : x ≡ y = ap (λ (p : ℕ × ℕ). p.0) q in
    record { said = rw a; ends = ap (λ (p : ℕ × ℕ). p.1) q }
positive-read None none e h = record { said = refl; ends = refl }
positive-read None (some y) e h = impossible (cc)

negative-read : (v : Variable) (o : Option ℕ) (e : ℕ) → variable_said v ≡ before o e → Signed (negative_of v) neg o e
negative-read (Some (x, next)) none e h = impossible (cc)
negative-read (Some (x, next)) (some y) e h =
    let q : ◌≡◌ {A = ℕ × ℕ} (x, next) (y, e) = cc in
    let a : x ≡ y = ap (λ (p : ℕ × ℕ). p.0) q in
    record { said = rw a; ends = ap (λ (p : ℕ × ℕ). p.1) q }
negative-read None none e h = record { said = refl; ends = refl }
negative-read None (some y) e h = impossible (cc)

-- a 0 that nothing follows
closing-read : (w : List ℕ) (next : ℕ) → (word_said (closed_by w next) ≡ after_zero w) × (next_of (closed_by w next) (next + length w) ≡ next + length w)
closing-read [] next = (refl, omega arith)
closing-read (b ∷ w) next = (refl, refl)

module _ (n : ℕ) (s : List ℕ) (at : ℕ) where
  pub no_word : length s ≤ at → WordRead n s at Word.Malformed
  unfolding word_of
  no_word h = record { said = rw (word_past s at h); ends = refl }

  -- the rest of a word after its first byte
  further : at + 1 + length (word_from s (at + 1)) ≡ at + suc (length (word_from s (at + 1)))
  further = omega arith

  module _ (h : at < length s) {r : Word} where
    pub word_minus : get_or s at 0 ≡ 45 → (v : Variable) → variable_said v ≡ variable_at n s (at + 1) → r ≡ negative_of v → WordRead n s at r
    unfolding word_of
    word_minus e v q t =
        let d : get_or s at 0 ≡ 32 → ⊥ = λ f. omega arith in
        let l : get_or s at 0 ≡ 10 → ⊥ = λ f. omega arith in
        let g = negative-read v (variable_in n (word_from s (at + 1))) (at + 1 + length (word_from s (at + 1))) q in
        record {
          said = rw (t, word_more s at h d l, e) g.said;
          ends = rw (t, word_more s at h d l, ← further) g.ends;
        }

    pub word_zero : get_or s at 0 ≡ 48 → r ≡ closing_at s (at + 1) → WordRead n s at r
    unfolding word_of
    word_zero e t =
        let d : get_or s at 0 ≡ 32 → ⊥ = λ f. omega arith in
        let l : get_or s at 0 ≡ 10 → ⊥ = λ f. omega arith in
        let g = closing-read (word_from s (at + 1)) (at + 1) in
        record {
          said = rw (t, word_more s at h d l, e) g.0;
          ends = rw (t, word_more s at h d l, ← further) g.1;
        }

    pub word_plain : (get_or s at 0 ≡ 45 → ⊥) → (get_or s at 0 ≡ 48 → ⊥) → (v : Variable) → variable_said v ≡ variable_at n s at → r ≡ positive_of v
        → WordRead n s at r
    unfolding word_of
    word_plain m z v q t =
        let g = positive-read v (variable_in n (word_from s at)) (at + length (word_from s at)) q in
        record {
          said = rw t (g.said ∙ by_first s at (λ w. literal_if pos (variable_in n w) ≡ word_of n w) h refl (rw (ne_eqb (get_or s at 0) 45 m, ne_eqb (get_or s at 0) 48 z)));
          ends = rw t g.ends;
        }

-- a variable that is read is one of 1 to n
variable-range : (n : ℕ) (w : List ℕ) {v : ℕ} → variable_in n w ≡ some v → (1 ≤ v) × (v ≤ n)
unfolding numeral
variable-range n [] e = impossible (cc)
variable-range n (b ∷ w) {v} e = first (ltb 48 b) refl e
  where
    few : (o : Option ℕ) → at_most n o ≡ some v → o ≡ some v
    few none f = impossible (cc)
    few (some x) f = within (leb x n) f
      where
        within : (t : Bool) → cond t (some x) none ≡ some v → some x ≡ some v
        within true g = g
        within false g = impossible (cc)

    most : (o : Option ℕ) → at_most n o ≡ some v → v ≤ n
    most none f = impossible (cc)
    most (some x) f = within (leb x n) refl f
      where
        within : (t : Bool) → leb x n ≡ t → cond t (some x) none ≡ some v → v ≤ n
        within true q g = let z : x ≡ v = cc in omega (arith, leb-true x n q)
        within false q g = impossible (cc)

    digit : (t : Bool) → 48 < b → cond t (numeral (10 * 0 + (b - 48)) w) none ≡ some v → 1 ≤ v
    digit true l f = omega (arith, numeral-grows (10 * 0 + (b - 48)) w f)
    digit false l f = impossible (cc)

    first : (t : Bool) → ltb 48 b ≡ t → cond t (at_most n (numeral 0 (b ∷ w))) none ≡ some v → (1 ≤ v) × (v ≤ n)
    first true q f =
        (digit (leb 48 b && leb b 57) (ltb-true 48 b q) (few (numeral 0 (b ∷ w)) f), most (numeral 0 (b ∷ w)) f)
    first false q f = impossible (cc)

-- and so is the variable of a literal
pub word-range : (n : ℕ) (w : List ℕ) {l : ℕ} → word_of n w ≡ literal l → (1 ≤ l / 2) × (l / 2 ≤ n)
unfolding word_of
word-range n [] e = impossible (cc)
word-range n (b ∷ w) {l} e = by_minus (eqb b 45) e
  where
    plain : (o : Option ℕ) → (variable_in n (b ∷ w) ≡ o) → literal_if pos o ≡ literal l → (1 ≤ l / 2) × (l / 2 ≤ n)
    plain none q f = impossible (cc)
    plain (some v) q f =
        let r = variable-range n (b ∷ w) q in let z : 2 * v ≡ l = cc in (omega arith, omega arith)

    minus : (o : Option ℕ) → (variable_in n w ≡ o) → literal_if neg o ≡ literal l → (1 ≤ l / 2) × (l / 2 ≤ n)
    minus none q f = impossible (cc)
    minus (some v) q f =
        let r = variable-range n w q in let z : 2 * v + 1 ≡ l = cc in (omega arith, omega arith)

    zero : (x : List ℕ) → after_zero x ≡ literal l → (1 ≤ l / 2) × (l / 2 ≤ n)
    zero [] f = impossible (cc)
    zero (y ∷ x) f = impossible (cc)

    by_zero : (t : Bool) → cond t (after_zero w) (literal_if pos (variable_in n (b ∷ w))) ≡ literal l → (1 ≤ l / 2) × (l / 2 ≤ n)
    by_zero true f = zero w f
    by_zero false f = plain (variable_in n (b ∷ w)) refl f

    by_minus : (t : Bool) → cond t (literal_if neg (variable_in n w)) (cond (eqb b 48) (after_zero w) (literal_if pos (variable_in n (b ∷ w)))) ≡ literal l
        → (1 ≤ l / 2) × (l / 2 ≤ n)
    by_minus true f = minus (variable_in n w) refl f
    by_minus false f = by_zero (eqb b 48) f
