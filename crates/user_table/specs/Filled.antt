-- The table of the users of each resource: rows of 1,025 numbers, each a count and then as many numbers of events. Row r is
-- that of resource r, from 1 to 99; row 0 is empty.
use Rattle.std.specs.Prelude.{ℕ, ◌+◌, ◌*◌, ◌≤◌, ◌<◌, ◌≡◌, List, length, get_or, take, drop, set}
use Rattle.parsing.specs.Each.{Each}
use Rattle.parsing.specs.Numbers.{Ascending}
use Rattle.tables.specs.Rows.{row_at, RowsIn}
use Rattle.literals.specs.Variables.{Within}
use Rattle.literals.specs.Words.{Holds}

-- what a row holds
unfoldable pub users_at : (users : List ℕ) (r : ℕ) → List ℕ
users_at users r = take (get_or users (r * 1025) 0) (drop (r * 1025 + 1) users)

-- each row r holds the list f r
pub record Filled (users : List ℕ) (f : ℕ → List ℕ) : Type 0 where
  pub long : length users ≡ 102500
  pub each : (r : ℕ) → Holds (drop (r * 1025 + 1) users) (get_or users (r * 1025) 0) (f r)

-- one event more in row r
abbrev pub pushed : (users : List ℕ) (r e : ℕ) → List ℕ
pushed users r e = set (set users (r * 1025) (get_or users (r * 1025) 0 + 1)) (r * 1025 + (get_or users (r * 1025) 0 + 1)) e

-- the rows of the events' resources, from which the table is filled: they ascend, to at most 99
pub record EventRows (t : List ℕ) (n : ℕ) : Type 0 where
  pub most : ℕ
  pub few : most ≤ 99
  pub rows : RowsIn t n
  pub ascends : (e : ℕ) → e < n → Ascending most 0 (row_at t e)

-- the table, as its readers need it: each row has at most 1,024 events, with their numbers
pub record UserRows (users : List ℕ) : Type 0 where
  pub long : length users ≡ 102500
  pub count : (r : ℕ) → get_or users (r * 1025) 0 ≤ 1024
  pub within : (r : ℕ) → Each (Within 1024) (users_at users r)
