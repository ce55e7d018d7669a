-- What the store holds while a solver's text is read: a byte for each variable, 0 while it is not given, 1 or 2 where it is given
-- once, with a minus or without, and 3 where it is given twice or more.
use Rattle.std.specs.Prelude.{ℕ, ◌-◌, ◌/◌, ◌%◌, Bool, true, false, cond, List, [], ◌∷◌, eqb, get_or, set}
use Rattle.scope.specs.SolverText.{lines_from, Token, word, fault, tokens, Word, literal, closing, malformed, word_of}

-- the byte of variable v, once v is given with a mark
abbrev pub noted : List ℕ → ℕ → ℕ → List ℕ
noted st v mark = set st (v - 1) (cond (eqb (get_or st (v - 1) 0) 0) mark 3)

-- the same of a literal: 2 without a minus, 1 with one
abbrev pub noted_literal : List ℕ → ℕ → List ℕ
noted_literal st l = noted st (l / 2) (2 - l % 2)

-- what reading leaves: the store and whether the closing 0 has come, or the offset of a fault
pub data Left : Type 0 where
  left : (store : List ℕ) (closed : Bool) → Left
  stopped : (at : ℕ) → Left

abbrev pub then_left : Left → (List ℕ → Bool → Left) → Left
then_left (left st closed) more = more st closed
then_left (stopped at) more = stopped at

-- a word, noted before those after it
abbrev pub noted_word : Word → ℕ → List ℕ → (List ℕ → Bool → Left) → Left
noted_word (literal l) at st more = more (noted_literal st l) false
noted_word closing at st more = more st true
noted_word malformed at st more = stopped at

unfoldable pub noting : ℕ → List ℕ → Bool → List Token → Left
noting n st closed [] = left st closed
noting n st closed (fault at ∷ ts) = stopped at
noting n st true (word p ∷ ts) = stopped p.at
noting n st false (word p ∷ ts) = noted_word (word_of n p.bytes) p.at st (λ st' closed. noting n st' closed ts)

abbrev pub text_tokens : List ℕ → List Token
text_tokens s = tokens (lines_from 0 s)
