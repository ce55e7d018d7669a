-- The groups and the durations of an instance that stands in tables.
use Rattle.std.specs.Prelude.{ℕ, ◌-◌, List, get_or, take}
use Rattle.scope.specs.Kinds.{group_at}
use Rattle.tables.specs.Rows.{rows}

-- the times of a group, by its number, among the first G rows of a table
abbrev pub group_in : (G : ℕ) → List ℕ → ℕ → List ℕ
group_in G t g = group_at (rows t G) g

-- the duration of an event, by its number, in a list of durations; among the first E of a table
abbrev pub duration_at : List ℕ → ℕ → ℕ
duration_at ds e = get_or ds (e - 1) 0

abbrev pub duration_in : (E : ℕ) → List ℕ → ℕ → ℕ
duration_in E d e = duration_at (take E d) e
