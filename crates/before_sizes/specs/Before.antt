-- The size of what stands before the constraints, by the tables.
use Rattle.std.specs.Prelude.{ℕ, ◌*◌, ◌≤◌, ◌<◌, ◌≡◌, List, length, get_or}
use Rattle.scope.specs.Kinds.{Event, up_to, users}
use Rattle.constraint.specs.declared.kinds.Head.{Head}
use Rattle.sizing.specs.declared.Size.{Size}
use Rattle.sizing.specs.Sums.{sum}
use Rattle.sizing.specs.Blocks.{starts_size}
use Rattle.measuring.specs.Blocks.{uses_size, durations_size}

-- starts, uses and durations
unfoldable pub blocks_size : Head → List Event → Size
blocks_size h es =
    sum (starts_size h.events h.times)
    (sum (uses_size h.times es (up_to h.resources)) (durations_size h.times es))

-- row r of the table begins with how many of the events use resource r
pub record Users (table : List ℕ) (es : List Event) : Type 0 where
  pub each : (r : ℕ) → get_or table (r * 1025) 0 ≡ length (users r es)

-- the table of users, and the durations, of an accepted file
pub record Begun (table durations : List ℕ) (h : Head) : Type 0 where
  pub times_low : 1 ≤ h.times
  pub times_high : h.times ≤ 125
  pub events : h.events ≤ 1024
  pub resources : h.resources ≤ 99
  pub table_long : length table ≡ 102500
  pub durations_long : length durations ≡ 1024
  pub few : (r : ℕ) → get_or table (r * 1025) 0 ≤ 1024
  pub short : (e : ℕ) → e < h.events → get_or durations e 0 ≤ h.times
