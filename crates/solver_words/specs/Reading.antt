-- What is read of a text from an offset on: a variable, and a word with the offset after it.
use Rattle.std.specs.Prelude.{ℕ, ◌+◌, ◌≡◌, ◌||◌, cond, List, [], ◌∷◌, eqb, length, drop, Some, None}
use Rattle.std.specs.Prelude as prelude
use Rattle.std.proofs.Math.Option.{Option, none, some}
use Rattle.scope.specs.Cnf.{pos, neg}
use Rattle.scope.specs.SolverText.{until, numeral, at_most, variable_in, literal, closing, malformed, word_of}
use Rattle.scope.specs.SolverText as solver
use Rattle.solver_words.specs.declared.word.Word.{Word}

-- the word that begins at an offset: "runs to the next space or the line's end"
abbrev pub word_from : List ℕ → ℕ → List ℕ
word_from s at = until 32 (until 10 (drop at s))

-- a variable that a function returns, with the offset after it
abbrev pub Variable : Type 0
Variable = prelude.Option (ℕ × ℕ)

-- what was read with the offset after it
abbrev pub before : Option ℕ → ℕ → Option (ℕ × ℕ)
before none next = none
before (some v) next = some (v, next)

-- the number that the digits from an offset on spell, after those whose value is v
abbrev pub numeral_from : ℕ → List ℕ → ℕ → ℕ → Option (ℕ × ℕ)
numeral_from n s v at = before (at_most n (numeral v (word_from s at))) (at + length (word_from s at))

abbrev pub numeral_at : ℕ → List ℕ → ℕ → Option (ℕ × ℕ)
numeral_at n s at = numeral_from n s 0 at

abbrev pub variable_at : ℕ → List ℕ → ℕ → Option (ℕ × ℕ)
variable_at n s at = before (variable_in n (word_from s at)) (at + length (word_from s at))

abbrev pub variable_said : Variable → Option (ℕ × ℕ)
variable_said (Some r) = some r
variable_said None = none

-- a number of the value v that ends at a byte b, if it does
abbrev pub ended_by : (b v at : ℕ) → Variable
ended_by b v at = cond (eqb b 32 || eqb b 10) (Some (v, at)) None

abbrev pub positive_of : Variable → Word
positive_of (Some r) = Word.Positive r.0 r.1
positive_of None = Word.Malformed

abbrev pub negative_of : Variable → Word
negative_of (Some r) = Word.Negative r.0 r.1
negative_of None = Word.Malformed

-- a 0 closes where nothing stands between it and the word's end
abbrev pub closed_by : List ℕ → ℕ → Word
closed_by [] next = Word.Closing next
closed_by (b ∷ bs) next = Word.Malformed

abbrev pub closing_at : List ℕ → ℕ → Word
closing_at s next = closed_by (word_from s next) next

-- which word of the definitions an answer stands for, and the offset that it gives, e where it gives none
abbrev pub word_said : Word → solver.Word
word_said (Word.Positive v next) = literal (pos v)
word_said (Word.Negative v next) = literal (neg v)
word_said (Word.Closing next) = closing
word_said Word.Malformed = malformed

abbrev pub next_of : Word → ℕ → ℕ
next_of (Word.Positive v next) e = next
next_of (Word.Negative v next) e = next
next_of (Word.Closing next) e = next
next_of Word.Malformed e = e

-- the word at an offset, and its end
pub record WordRead (n : ℕ) (s : List ℕ) (at : ℕ) (r : Word) : Type 0 where
  pub said : word_said r ≡ word_of n (word_from s at)
  pub ends : next_of r (at + length (word_from s at)) ≡ at + length (word_from s at)
