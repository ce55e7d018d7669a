-- What a table holds: rows of 126 bytes, each a count and then as many members.
use Rattle.std.specs.Prelude.{ℕ, zero, suc, ◌+◌, ◌*◌, ◌≤◌, ◌<◌, List, [], ◌∷◌, ◌++◌, length, get_or, take, drop}
use Rattle.scope.specs.Kinds.{Event}
use Rattle.number.specs.Lists.{leading}

-- the list that a row holds
unfoldable pub row_of : List ℕ → List ℕ
row_of [] = []
row_of (n ∷ r) = leading n r

-- row g of a table, from 0
unfoldable pub row_at : List ℕ → ℕ → List ℕ
row_at t g = row_of (take 126 (drop (g * 126) t))

-- the first n rows
unfoldable pub rows : List ℕ → ℕ → List (List ℕ)
rows t zero = []
rows t (suc g) = rows t g ++ (row_at t g ∷ [])

-- event e, from 0, of a table of durations and a table of resources; the first n events
abbrev pub event_of : List ℕ → List ℕ → ℕ → Event
event_of d t e = record { duration = get_or d e 0; resources = row_at t e }

unfoldable pub events_of : List ℕ → List ℕ → ℕ → List Event
events_of d t zero = []
events_of d t (suc e) = events_of d t e ++ (event_of d t e ∷ [])

-- the table has row g, whose count is no more than there is room for
pub record RowIn (t : List ℕ) (g : ℕ) : Type 0 where
  pub room : g * 126 + 126 ≤ length t
  pub count : length (row_at t g) ≤ 125

-- the first n rows are so
pub record RowsIn (t : List ℕ) (n : ℕ) : Type 0 where
  pub each : (g : ℕ) → g < n → RowIn t g
