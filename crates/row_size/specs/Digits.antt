-- Numbers with equally many digits.
use Rattle.std.specs.Prelude.{◌≡◌, ℕ, ◌+◌, ◌≤◌, ◌<◌, length}
use Rattle.scope.specs.Text.{decimal}

-- each of the n numbers from v on has r digits
pub record Even (r v n : ℕ) : Type 0 where
  pub few : r ≤ 20
  pub each : (i : ℕ) → i < n → length (decimal (v + i)) ≡ r
