-- How long the stores are that a file s is read into.
use Rattle.std.specs.Prelude.{ℕ, ◌*◌, ◌≤◌, ◌≡◌, List, length}
use Rattle.tables.specs.Room.{group_room}

-- 1,024 durations, 1,024 rows for the resources of events, and as many rows for groups as the file may need
pub record Tables (s durations resources groups : List ℕ) : Type 0 where
  pub durations_long : length durations ≡ 1024
  pub resources_long : length resources ≡ 129024
  pub groups_long : group_room s * 126 ≤ length groups

-- and room for a constraint's list
pub record Stores (s durations resources groups list : List ℕ) : Type 0 where
  pub tables : Tables s durations resources groups
  pub list_long : length list ≡ 2048
