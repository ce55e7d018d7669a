-- What holds of a store between two steps: rows in order over words that are used, and literals of the formula's variables.
use Rattle.std.specs.Prelude.{List, [], ◌∷◌, ℕ, ◌/◌, ◌≤◌}

-- P of every literal of a clause
abbrev pub All : (ℕ → Type 0) → List ℕ → Type 0
All P [] = Unit {0}
All P (l ∷ ls) = P l × All P ls

-- a literal of a variable up to the last
pub record Good (last l : ℕ) : Type 0 where
  pub two : 2 ≤ l
  pub most : l / 2 ≤ last
