-- Literals and variables that can be written as words.
use Rattle.std.specs.Prelude.{List, ℕ, ◌≤◌, ◌<◌, length, get_or}

-- a literal of a variable below 2 ^ 30
pub record Literal (l : ℕ) : Type 0 where
  pub some : 2 ≤ l
  pub small : l < 2147483648

-- the first n of a list are such literals, and all of it
abbrev pub LiteralsTo : ℕ → List ℕ → Type 0
LiteralsTo n xs = (i : ℕ) → i < n → Literal (get_or xs i 0)

abbrev pub Literals : List ℕ → Type 0
Literals xs = LiteralsTo (length xs) xs
