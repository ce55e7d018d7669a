-- Lines and words of a text from an offset on.
use Prim.Native.Nat.{ℕ, zero, suc, ◌+◌, ◌≤◌, ◌<◌}
use mathlib.Core.Path.{◌≡◌, refl, sym, ap, ◌∙◌}
use mathlib.Core.Bool.{Bool, true, false, cond}
use mathlib.Core.List.{List, [], ◌∷◌, ◌++◌, map}
use native.Mathlib.Omega.{arith}
use native.Mathlib.Numerals.{add-one}
use lib.Dec.{ltb, eqb}
use lib.ListN.{length, get_or, drop, length-drop, drop_of_length-le}
use lib.Seq.{drop-cons, drop-drop}
use borrow.Author.Tests.{eq-eqb, ne_eqb, ltb-false}
use Rattle.scope.specs.SolverText.{Piece, until, lines_after, lines_from, words_after, Token, word, tokens, line_tokens}
use Rattle.solver_words.specs.Reading.{word_from}
use Rattle.solver_words.proofs.laws.Words.{until_past, until_here, until_on}
use Rattle.solver_lines.specs.Reading.{line_rest, end_of, after_end, word_token, word_end, words_from, tokens_from}

-- what stands before a byte z, cut off at its front
pub drop-until : (z : ℕ) (x : List ℕ) (k : ℕ) → k ≤ length (until z x) → drop k (until z x) ≡ until z (drop k x)
unfolding until
drop-until z x zero h = refl
drop-until z [] (suc k) h = refl
drop-until z (b ∷ x) (suc k) h = go (eqb b z) (λ l. drop-until z x k l) h
  where
    go : (t : Bool) → (k ≤ length (until z x) → drop k (until z x) ≡ until z (drop k x))
        → suc k ≤ length (cond t [] (b ∷ until z x))
        → drop (suc k) (cond t [] (b ∷ until z x)) ≡ until z (drop k x)
    go true more l = let f : ⊥ = omega arith in absurd f
    go false more l = more (omega arith)

pub until-short : (z : ℕ) (x : List ℕ) → length (until z x) ≤ length x
unfolding until
until-short z [] = omega arith
until-short z (b ∷ x) = go (eqb b z) (until-short z x)
  where
    go : (t : Bool) → length (until z x) ≤ length x → length (cond t [] (b ∷ until z x)) ≤ suc (length x)
    go true h = omega arith
    go false h = omega arith

-- a line's rest from a later offset of the same line, and the same end
module _ (s : List ℕ) (at k : ℕ) (h : k ≤ length (line_rest s at)) where
  pub rest_later : line_rest s (at + k) ≡ drop k (line_rest s at)
  rest_later = sym (drop-until 10 (drop at s) k h ∙ rw (drop-drop k at s))

  pub end_later : end_of s (at + k) ≡ end_of s at
  end_later = omega (arith, ap length rest_later, length-drop k (line_rest s at))

-- the search for a line's end, from an offset whose line ends at e
module _ (s : List ℕ) (at e : ℕ) (so_far : e ≡ end_of s at) where
  pub end_past : length s ≤ at → at ≡ e
  end_past h = omega (arith, ap length (until_past 10 s at h))

  pub end_here : at < length s → get_or s at 0 ≡ 10 → at ≡ e
  end_here h l = omega (arith, ap length (until_here 10 s at h l))

  pub end_on : at < length s → (get_or s at 0 ≡ 10 → ⊥) → e ≡ end_of s (at + 1)
  end_on h d = omega (arith, ap length (until_on 10 s at h d))

pub ruleset ending = (end_past, end_here, end_on)

-- a line ends within the text, a word within its line
pub end-within : (s : List ℕ) (at : ℕ) → at ≤ length s → end_of s at ≤ length s
end-within s at h = omega (arith, until-short 10 (drop at s), length-drop at s)

pub word-short : (s : List ℕ) (at : ℕ) → length (word_from s at) ≤ length (line_rest s at)
word-short s at = until-short 32 (line_rest s at)

-- after the first word, the others
words-later : (at : ℕ) (x : List ℕ) → words_after at x ≡ words_from (at + length (until 32 x)) (drop (length (until 32 x)) x)
unfolding until words_after
words-later at [] = refl
words-later at (b ∷ x) = go (eqb b 32) refl (words-later (suc at) x)
  where
    go : (t : Bool) → eqb b 32 ≡ t → words_after (suc at) x ≡ words_from (suc at + length (until 32 x)) (drop (length (until 32 x)) x)
        → words_after at (b ∷ x) ≡ words_from (at + length (cond t [] (b ∷ until 32 x))) (drop (length (cond t [] (b ∷ until 32 x))) (b ∷ x))
    go true e h = let z : at + 0 ≡ at = omega arith in rw (z, e)
    go false e h = let z : at + suc (length (until 32 x)) ≡ suc at + length (until 32 x) = omega arith in rw (z, e) h

module _ (s : List ℕ) (at : ℕ) where
  pub tokens_none : line_rest s at ≡ [] → tokens_from s at ≡ []
  unfolding words_after
  tokens_none e = rw e

  module _ (h : at < length s) where
    pub tokens_space : get_or s at 0 ≡ 32 → tokens_from s at ≡ tokens_from s (at + 1)
    unfolding words_after
    tokens_space e =
        let d : get_or s at 0 ≡ 10 → ⊥ = λ f. omega arith in
        rw (until_on 10 s at h d, eq-eqb (get_or s at 0) 32 e, add-one at)

    first_word : (get_or s at 0 ≡ 32 → ⊥) → (get_or s at 0 ≡ 10 → ⊥)
        → words_from at (line_rest s at) ≡ record { at = at; bytes = word_from s at } ∷ words_after at (line_rest s at)
    unfolding words_after
    first_word d e = rw (until_on 10 s at h e, ne_eqb (get_or s at 0) 32 d)

    pub tokens_word : (get_or s at 0 ≡ 32 → ⊥) → (get_or s at 0 ≡ 10 → ⊥)
        → tokens_from s at ≡ word_token s at ∷ tokens_from s (word_end s at)
    tokens_word d e =
        let first : words_from at (line_rest s at) ≡ record { at = at; bytes = word_from s at } ∷ words_after at (line_rest s at) = first_word d e in
        let later : words_after at (line_rest s at) ≡ words_from (word_end s at) (line_rest s (word_end s at)) = words-later at (line_rest s at)
        ∙ rw (rest_later s at (length (word_from s at)) (word-short s at)) in
        ap (map word) (first ∙ ap (λ (ws : List Piece). record { at = at; bytes = word_from s at } ∷ ws) later)

-- after the first line, the others
lines-later : (at : ℕ) (x : List ℕ) → lines_after at x ≡ lines_from (at + suc (length (until 10 x))) (drop (suc (length (until 10 x))) x)
unfolding until lines_after
lines-later at [] = refl
lines-later at (b ∷ x) = go (eqb b 10) refl (lines-later (suc at) x)
  where
    go : (t : Bool) → eqb b 10 ≡ t
        → lines_after (suc at) x ≡ lines_from (suc at + suc (length (until 10 x))) (drop (suc (length (until 10 x))) x)
        → lines_after at (b ∷ x)
        ≡ lines_from (at + suc (length (cond t [] (b ∷ until 10 x)))) (drop (suc (length (cond t [] (b ∷ until 10 x)))) (b ∷ x))
    go true e h = let z : at + 1 ≡ suc at = omega arith in rw (z, e)
    go false e h = let z : at + suc (suc (length (until 10 x))) ≡ suc at + suc (length (until 10 x)) = omega arith in rw (z, e) h

-- the tokens of the lines from an offset on, where one may begin
abbrev pub lines_left : List ℕ → ℕ → List Token
lines_left s at = tokens (lines_from at (drop at s))

module _ (s : List ℕ) (at : ℕ) where
  pub lines_none : length s ≤ at → lines_left s at ≡ []
  unfolding lines_after tokens
  lines_none h = rw (drop_of_length-le s h)

  -- the line's end, and the rest of the text after it
  lines_after_lem : lines_after at (drop at s) ≡ lines_from (end_of s at + 1) (drop (end_of s at + 1) s)
  lines_after_lem =
      let z : at + suc (length (line_rest s at)) ≡ end_of s at + 1 = omega arith in
      lines-later at (drop at s) ∙ rw (drop-drop (suc (length (line_rest s at))) at s, z)

  by_end : (t : Bool) → ltb (end_of s at) (length s) ≡ t
      → lines_from (end_of s at + 1) (drop (end_of s at + 1) s) ≡ lines_from (cond t (end_of s at + 1) (end_of s at)) (drop (cond t (end_of s at + 1) (end_of s at)) s)
  unfolding lines_after
  by_end true e = refl
  by_end false e =
      let l = ltb-false (end_of s at) (length s) e in
      let none_here : drop (end_of s at) s ≡ [] = drop_of_length-le s l in
      let far : length s ≤ end_of s at + 1 = omega arith in
      let none_after : drop (end_of s at + 1) s ≡ [] = drop_of_length-le s far in
      rw (none_here, none_after)

  pub lines_next : at < length s → lines_left s at ≡ line_tokens at (line_rest s at) ++ lines_left s (after_end s (end_of s at))
  unfolding tokens
  lines_next h =
      let first : lines_from at (drop at s) ≡ record { at = at; bytes = line_rest s at } ∷ lines_after at (drop at s) = rw (drop-cons s at 0 h) in
      ap tokens (first ∙ ap (λ (ls : List Piece). record { at = at; bytes = line_rest s at } ∷ ls) (lines_after_lem ∙ by_end (ltb (end_of s at) (length s)) refl))
