-- The word that begins at an offset of a text: byte by byte.
use Prim.Native.Nat.{ℕ, ◌+◌, ◌≤◌, ◌<◌}
use mathlib.Core.Path.{◌≡◌}
use mathlib.Core.List.{List, [], ◌∷◌}
use native.Mathlib.Omega.{arith}
use native.Mathlib.Numerals.{add-one}
use lib.ListN.{length, get_or, drop, drop_of_length-le}
use lib.Seq.{drop-cons}
use borrow.Author.Tests.{eq-eqb, ne_eqb}
use Rattle.scope.specs.SolverText.{until}
use Rattle.solver_words.specs.Reading.{word_from}

-- a byte z ends what stands before it, any other is one of these bytes
pub until_stop : (z b : ℕ) (bs : List ℕ) → b ≡ z → until z (b ∷ bs) ≡ []
unfolding until
until_stop z b bs e = rw (eq-eqb b z e)

pub until-more : (z b : ℕ) (bs : List ℕ) → (b ≡ z → ⊥) → until z (b ∷ bs) ≡ b ∷ until z bs
unfolding until
until-more z b bs h = rw (ne_eqb b z h)

-- the same from an offset on
module _ (z : ℕ) (s : List ℕ) (at : ℕ) where
  pub until_past : length s ≤ at → until z (drop at s) ≡ []
  unfolding until
  until_past h = rw (drop_of_length-le s h)

  pub until_here : at < length s → get_or s at 0 ≡ z → until z (drop at s) ≡ []
  until_here h e = rw (drop-cons s at 0 h) (until_stop z (get_or s at 0) _ e)

  pub until_on : at < length s → (get_or s at 0 ≡ z → ⊥) → until z (drop at s) ≡ get_or s at 0 ∷ until z (drop (at + 1) s)
  until_on h d = rw (drop-cons s at 0 h, add-one at) (until-more z (get_or s at 0) _ d)

module _ (s : List ℕ) (at : ℕ) where
  pub word_past : length s ≤ at → word_from s at ≡ []
  unfolding until
  word_past h = rw (until_past 10 s at h)

  pub word_space : at < length s → get_or s at 0 ≡ 32 → word_from s at ≡ []
  word_space h e = let d : get_or s at 0 ≡ 10 → ⊥ = λ f. omega arith in rw (until_on 10 s at h d) (until_stop 32 (get_or s at 0) _ e)

  pub word_line_end : at < length s → get_or s at 0 ≡ 10 → word_from s at ≡ []
  unfolding until
  word_line_end h e = rw (until_here 10 s at h e)

  pub word_more : at < length s → (get_or s at 0 ≡ 32 → ⊥) → (get_or s at 0 ≡ 10 → ⊥) → word_from s at ≡ get_or s at 0 ∷ word_from s (at + 1)
  word_more h d e = rw (until_on 10 s at h e) (until-more 32 (get_or s at 0) _ d)
