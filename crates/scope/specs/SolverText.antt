-- Order 5. What a solver prints, "lines that begin with c, s, o or v, in the older form of the maxSAT evaluations", read as a model.
use Rattle.std.specs.Prelude.{ℕ, suc, ◌+◌, ◌-◌, ◌*◌, ◌/◌, Bool, true, false, ◌&&◌, ◌||◌, cond, leb, ltb, eqb}
use mathlib.Core.List.{List, [], ◌∷◌, ◌++◌, map, flat_map}
use Rattle.std.proofs.Math.Option.{Option, none, some}
use Rattle.scope.specs.Parsed.{Answer, answered, refusal, then}
use Rattle.scope.specs.Kinds.{up_to, member}
use Rattle.scope.specs.Cnf.{pos, neg}
use Rattle.scope.specs.Score.{unless_found}
use Rattle.scope.specs.Text.{space, newline, literal_text}

-- some bytes of the text, and the offset of the first
pub record Piece : Type 0 where
  pub at : ℕ
  pub bytes : List ℕ

-- the bytes before the first that is z
unfoldable pub until : ℕ → List ℕ → List ℕ
until z [] = []
until z (b ∷ bs) = cond (eqb b z) [] (b ∷ until z bs)

-- "A line ends in byte 10 or with the text, and none begins at the text's end."
abbrev pub line_at : ℕ → List ℕ → List Piece
line_at at [] = []
line_at at (b ∷ bs) = record { at = at; bytes = until 10 (b ∷ bs) } ∷ []

-- the lines that begin after a byte 10
unfoldable pub lines_after : ℕ → List ℕ → List Piece
lines_after at [] = []
lines_after at (b ∷ bs) = cond (eqb b 10) (line_at (suc at) bs) [] ++ lines_after (suc at) bs

abbrev pub lines_from : ℕ → List ℕ → List Piece
lines_from at bs = line_at at bs ++ lines_after at bs

-- "each has one or more spaces before it and runs to the next space or the line's end, and spaces may end a line"
abbrev pub word_at : ℕ → List ℕ → List Piece
word_at at [] = []
word_at at (b ∷ bs) = cond (eqb b 32) [] (record { at = at; bytes = until 32 (b ∷ bs) } ∷ [])

-- the words of a line that begin after a space
unfoldable pub words_after : ℕ → List ℕ → List Piece
words_after at [] = []
words_after at (b ∷ bs) = cond (eqb b 32) (word_at (suc at) bs) [] ++ words_after (suc at) bs

-- What the text gives, in turn: the words of v lines, and what is no line or no word
pub data Token : Type 0 where
  word : Piece → Token
  fault : (at : ℕ) → Token

-- "What follows a v without a space is malformed, at its own offset."
abbrev pub after_v : ℕ → List ℕ → List Token
after_v at [] = []
after_v at (b ∷ bs) = cond (eqb b 32) (map word (words_after at (b ∷ bs))) (fault at ∷ [])

-- a line that begins with c, o or s
abbrev pub passed_over : ℕ → Bool
passed_over b = eqb b 99 || eqb b 111 || eqb b 115

-- "An empty line is of another kind." "the rest of a c, s or o line is ignored"
abbrev pub line_tokens : ℕ → List ℕ → List Token
line_tokens at [] = fault at ∷ []
line_tokens at (b ∷ bs) = cond (passed_over b) [] (cond (eqb b 118) (after_v (suc at) bs) (fault at ∷ []))

unfoldable pub tokens : List Piece → List Token
tokens [] = []
tokens (l ∷ ls) = line_tokens l.at l.bytes ++ tokens ls

-- the number that decimal digits spell, after those whose value is v; none where a byte is no digit
unfoldable pub numeral : ℕ → List ℕ → Option ℕ
numeral v [] = some v
numeral v (b ∷ bs) = cond (leb 48 b && leb b 57) (numeral (10 * v + (b - 48)) bs) none

-- the same, if it is n at most
abbrev pub at_most : ℕ → Option ℕ → Option ℕ
at_most n none = none
at_most n (some v) = cond (leb v n) (some v) none

-- a variable from 1 to n, "without leading zeros"
abbrev pub variable_in : ℕ → List ℕ → Option ℕ
variable_in n [] = none
variable_in n (b ∷ bs) = cond (ltb 48 b) (at_most n (numeral 0 (b ∷ bs))) none

-- What a word is: a literal, the closing 0, or neither
pub data Word : Type 0 where
  literal : ℕ → Word
  closing : Word
  malformed : Word

abbrev pub literal_if : (ℕ → ℕ) → Option ℕ → Word
literal_if sign none = malformed
literal_if sign (some v) = literal (sign v)

abbrev pub after_zero : List ℕ → Word
after_zero [] = closing
after_zero (b ∷ bs) = malformed

-- "with a minus or no sign .. , with an optional closing 0"
unfoldable pub word_of : ℕ → List ℕ → Word
word_of n [] = malformed
word_of n (b ∷ bs) =
    cond (eqb b 45) (literal_if neg (variable_in n bs)) (cond (eqb b 48) (after_zero bs) (literal_if pos (variable_in n (b ∷ bs))))

-- a literal, before those after it
abbrev pub cons_literal : ℕ → Answer (List ℕ) → Answer (List ℕ)
cons_literal l (answered ls) = answered (l ∷ ls)
cons_literal l (refusal k v) = refusal k v

-- by what a word at an offset is: a literal before those that follow it, the closing 0 before what may follow it, or 20
abbrev pub by_word : Word → ℕ → (more closed : Answer (List ℕ)) → Answer (List ℕ)
by_word (literal l) at more closed = cons_literal l more
by_word closing at more closed = closed
by_word malformed at more closed = refusal 20 at

-- The literals of some tokens; the flag says whether the closing 0 has come. "20, at the first line of another kind, literal out of
-- range or malformed, or number after the 0, gives its offset"
unfoldable pub gathered : ℕ → Bool → List Token → Answer (List ℕ)
gathered n closed [] = answered []
gathered n closed (fault at ∷ ts) = refusal 20 at
gathered n true (word p ∷ ts) = refusal 20 p.at
gathered n false (word p ∷ ts) = by_word (word_of n p.bytes) p.at (gathered n false ts) (gathered n true ts)

-- how many of some literals are of variable v
unfoldable pub times_given : ℕ → List ℕ → ℕ
times_given v [] = 0
times_given v (l ∷ ls) = cond (eqb (l / 2) v) 1 0 + times_given v ls

-- the first of some variables "that is missing or given twice"
unfoldable pub not_once : List ℕ → List ℕ → Option ℕ
not_once ls [] = none
not_once ls (v ∷ vs) = cond (eqb (times_given v ls) 1) (not_once ls vs) (some v)

-- a byte for each of n variables: 1 where its literal without a minus is given
abbrev pub model_given : ℕ → List ℕ → List ℕ
model_given n ls = map (λ v. cond (member (pos v) ls) 1 0) (up_to n)

-- the model of n variables that a text gives: 20, then "21, after the last line, gives the lowest variable that is missing or given twice"
unfoldable pub model_in : ℕ → List ℕ → Answer (List ℕ)
model_in n text =
    then (gathered n false (tokens (lines_from 0 text))) (λ ls. unless_found 21 (not_once ls (up_to n)) (answered (model_given n ls)))

-- A text that gives a model: a v line with a literal for each variable, from variable v on, and the closing 0
unfoldable pub literals_from : ℕ → List ℕ → List ℕ
literals_from v [] = []
literals_from v (b ∷ bs) = cond (eqb b 1) (pos v) (neg v) ∷ literals_from (suc v) bs

unfoldable pub model_text : List ℕ → List ℕ
model_text m = 118 ∷ space ++ flat_map literal_text (literals_from 1 m) ++ 48 ∷ newline
