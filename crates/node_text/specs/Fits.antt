-- Literals whose numbers have at most seven digits, and room for their lines.
use Rattle.std.specs.Prelude.{List, ℕ, ◌+◌, ◌*◌, ◌≤◌, ◌<◌, length, get_or}

abbrev pub Short : List ℕ → Type 0
Short xs = (i : ℕ) → i < length xs → get_or xs i 0 < 20000000

-- a weight, some literals, another one, and an output of a length from a place on: a line of two literals has at most 28 bytes,
-- and there is room for one line more than literals
pub record Fits (len at top : ℕ) (lits : List ℕ) (q : ℕ) : Type 0 where
  pub weight : top < 10000000
  pub second : q < 20000000
  pub literals : Short lits
  pub room : at + 28 * length lits + 28 ≤ len
