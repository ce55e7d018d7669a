-- A directory that was built holds its formula.
use Rattle.std.specs.Prelude.{List, [], ◌∷◌, ℕ, ◌≤◌, length}
use Rattle.scope.specs.Formula.{words}
use Rattle.holding.specs.Holding.{All}

-- P of every literal of some clauses
abbrev pub Each : (ℕ → Type 0) → List (List ℕ) → Type 0
Each P [] = Unit {0}
Each P (c ∷ cs) = All P c × Each P cs

-- a formula whose rows are exact
pub record Narrow (f : List (List ℕ)) : Type 0 where
  pub few_clauses : length f ≤ 4294967295
  pub few_words : words f ≤ 4294967295
