-- What is known of sizes and tables that were read.
use Rattle.std.specs.Prelude.{ℕ, ◌≤◌}

-- the sizes of an instance
pub record SizesIn (T E R : ℕ) : Type 0 where
  pub times_low : 1 ≤ T
  pub times_high : T ≤ 125
  pub events_low : 1 ≤ E
  pub events_high : E ≤ 1024
  pub resources_high : R ≤ 99
