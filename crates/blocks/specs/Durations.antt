-- What the durations of events keep to: each is at most the number of times.
use Rattle.std.specs.Prelude.{List, ℕ, ◌≤◌, ◌<◌, length, get_or}

pub record Durations (d : List ℕ) (E T : ℕ) : Type 0 where
  pub times : T ≤ 125
  pub events : E ≤ 1024
  pub room : E ≤ length d
  pub each : (e : ℕ) → e < E → get_or d e 0 ≤ T
