-- Rows whose numbers have at most seven digits.
use Rattle.std.specs.Prelude.{ℕ, ◌+◌, ◌/◌, ◌≤◌}

-- the n numbers from v on are not 0 and have at most seven digits
pub record Short (v n : ℕ) : Type 0 where
  pub least : 1 ≤ v
  pub most : v + n ≤ 10000000

-- the weight of hard lines, a row's literal, its variables and those of the row above
pub record Spellable (top x prev first cols : ℕ) : Type 0 where
  pub weight : Short top 1
  pub literal : Short (x / 2) 1
  pub above : Short prev cols
  pub row : Short first cols
  pub some : 1 ≤ cols
