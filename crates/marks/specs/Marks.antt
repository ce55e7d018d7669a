-- The marks that bytes hold.
use Rattle.std.specs.Prelude.{List, ℕ, zero, suc, get_or, set}
use Rattle.theory.specs.Marked.{Marks}

-- variable v at byte v − 1; there is no variable 0, and a mark past the bytes is open
abbrev pub marks_of : List ℕ → Marks
marks_of ms zero = 0
marks_of ms (suc v) = get_or ms v 0

-- the bytes with another mark for a variable
abbrev pub put_mark : List ℕ → ℕ → ℕ → List ℕ
put_mark ms zero x = ms
put_mark ms (suc v) x = set ms v x
