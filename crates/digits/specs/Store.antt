-- A lent output with a position: what a store does, and what a run of stores that fits leaves.
use Rattle.std.specs.Prelude.{List, ℕ, ◌+◌, min, set}

-- a position, and the elements lent: bytes or words
pub record Lent (A : Type 0) : Type 0 where
  pub at : ℕ
  pub buf : List A

abbrev pub Out : Type 0
Out = Lent ℕ

abbrev pub out : {A : Type 0} → ℕ → List A → Lent A
out a b = record { at = a; buf = b }

-- a position moved on by n; it stops at 2 ^ 63 - 1, and every slice is at most that long
abbrev pub further : ℕ → ℕ → ℕ
further a n = min (a + n) 9223372036854775807

-- one store; past the end nothing is stored, and the position counts on
abbrev pub put : {A : Type 0} → A → Lent A → Lent A
put x o = out (further o.at 1) (set o.buf o.at x)
