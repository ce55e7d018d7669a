-- What the functions of this crate say of a text from an offset on.
use Rattle.std.specs.Prelude.{ℕ, ◌+◌, ◌<◌, ◌≡◌, Bool, cond, List, [], ◌∷◌, ◌++◌, map, ltb, length, drop, Option, Some, None, Result, Ok, Err}
use Rattle.scope.specs.SolverText.{Piece, until, word_at, words_after, Token, word, after_v, line_tokens}
use Rattle.solver_words.specs.Reading.{word_from}
use Rattle.solver_lines.specs.Noting.{Left, left, stopped, noting}

-- the bytes of a line from an offset on, and the offset of its end
abbrev pub line_rest : List ℕ → ℕ → List ℕ
line_rest s at = until 10 (drop at s)

abbrev pub end_of : List ℕ → ℕ → ℕ
end_of s at = at + length (line_rest s at)

-- where the next line begins, or the text's end
abbrev pub after_end : List ℕ → ℕ → ℕ
after_end s end = cond (ltb end (length s)) (end + 1) end

-- the word that begins at an offset, as a token, and where it ends
abbrev pub word_token : List ℕ → ℕ → Token
word_token s at = word (record { at = at; bytes = word_from s at })

abbrev pub word_end : List ℕ → ℕ → ℕ
word_end s at = at + length (word_from s at)

-- the words of a line from an offset on, where one may begin
abbrev pub words_from : ℕ → List ℕ → List Piece
words_from at l = word_at at l ++ words_after at l

abbrev pub tokens_from : List ℕ → ℕ → List Token
tokens_from s at = map word (words_from at (line_rest s at))

-- the offset after a word or a space that is passed, with whether the closing 0 has come
abbrev pub Turn : Type 0
Turn = Option (ℕ × Bool)

-- the offset of a line's end with the same; or the offset of a fault
abbrev pub Line : Type 0
Line = Result (ℕ × Bool) ℕ

-- a word that is taken: what is noted of it, and the offset that is given, e where none is
abbrev pub turn_said : Turn → ℕ → List ℕ → Left
turn_said (Some t) at st = left st t.1
turn_said None at st = stopped at

abbrev pub turn_next : Turn → ℕ → ℕ
turn_next (Some t) e = t.0
turn_next None e = e

pub record WordTaken (n : ℕ) (s : List ℕ) (at : ℕ) (closed : Bool) (st st' : List ℕ) (r : Turn) : Type 0 where
  pub said : turn_said r at st' ≡ noting n st closed (word_token s at ∷ [])
  pub ends : turn_next r (word_end s at) ≡ word_end s at

-- a space or a word that is passed: what is left is read from the offset that is given
abbrev pub step_said : ℕ → List ℕ → Turn → ℕ → List ℕ → Left
step_said n s (Some t) at st = noting n st t.1 (tokens_from s t.0)
step_said n s None at st = stopped at

pub record Stepped (n : ℕ) (s : List ℕ) (at : ℕ) (closed : Bool) (st st' : List ℕ) (r : Turn) : Type 0 where
  pub said : step_said n s r at st' ≡ noting n st closed (tokens_from s at)
  pub ends : end_of s (turn_next r at) ≡ end_of s at
  pub on : (next : ℕ) (c : Bool) → r ≡ Some (next, c) → (at < next) × (next < length s + 1)

-- a line, or what is left of it: what is noted, and the offset of its end, e where none is given
abbrev pub line_said : Line → List ℕ → Left
line_said (Ok l) st = left st l.1
line_said (Err at) st = stopped at

abbrev pub line_next : Line → ℕ → ℕ
line_next (Ok l) e = l.0
line_next (Err at) e = e

-- from tokens ts, in the line that an offset is in
pub record TokensRead (n : ℕ) (s : List ℕ) (at : ℕ) (closed : Bool) (st st' : List ℕ) (ts : List Token) (r : Line) : Type 0 where
  pub said : line_said r st' ≡ noting n st closed ts
  pub ends : line_next r (end_of s at) ≡ end_of s at

abbrev pub WordsRead : ℕ → List ℕ → ℕ → Bool → List ℕ → List ℕ → Line → Type 0
WordsRead n s at closed st st' r = TokensRead n s at closed st st' (tokens_from s at) r

abbrev pub ValuesRead : ℕ → List ℕ → ℕ → Bool → List ℕ → List ℕ → Line → Type 0
ValuesRead n s at closed st st' r = TokensRead n s at closed st st' (after_v at (line_rest s at)) r

abbrev pub LineRead : ℕ → List ℕ → ℕ → Bool → List ℕ → List ℕ → Line → Type 0
LineRead n s at closed st st' r = TokensRead n s at closed st st' (line_tokens at (line_rest s at)) r
