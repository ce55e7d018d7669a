-- The gathered literals are literals of variables, and fit a word with a bit to spare.
use Rattle.std.specs.Prelude.{ℕ, ◌≤◌, ◌<◌}

-- a literal of a variable
pub record Proper (l : ℕ) : Type 0 where
  pub low : 2 ≤ l
  pub high : l < 2147483648
