-- Cells whose variables have their gates' values in a model: all their clauses are true.
use Rattle.std.specs.Prelude.{◌≡◌, Bool, true, ◌&&◌, ◌||◌, ℕ, zero, suc, ◌+◌, ◌-◌, ◌*◌, ◌<◌, min}
use Rattle.std.specs.Bool.{beq}
use Rattle.scope.specs.Cnf.{Assignment, lit}
use Rattle.sink.specs.World.{row_over}

-- how many clauses a row has
abbrev pub row_count : ℕ → ℕ → ℕ → ℕ
row_count w zero cols = 2 * cols
row_count w (suc v) cols = 4 * cols - min w cols

-- the cell in column j has its gate's value, where t is the truth of the row's literal
abbrev pub right_with : Assignment → Bool → ℕ → ℕ → ℕ → ℕ → Bool
right_with ν t w prev first j = beq (ν (first + j)) (lit ν (row_over prev (suc j)) || t && lit ν (row_over prev (suc j - w)))

abbrev pub right_at : Assignment → ℕ → ℕ → ℕ → ℕ → ℕ → Bool
right_at ν x w prev first j = right_with ν (lit ν x) w prev first j

-- each of the first n cells has it
pub record Right (ν : Assignment) (x w prev first n : ℕ) : Type 0 where
  pub each : (j : ℕ) → j < n → right_at ν x w prev first j ≡ true
