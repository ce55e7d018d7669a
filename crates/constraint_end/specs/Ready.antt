-- What the functions that check constraints are lent: how many events use each resource, the groups, a store for a list.
use Rattle.std.specs.Prelude.{ℕ, ◌≤◌, ◌≡◌, List, length, get_or}
use Rattle.scope.specs.Parsed.{Parsed, repeat}
use Rattle.scope.specs.Kinds.{Kind, Constraint}
use Rattle.tables.specs.Rows.{rows, RowsIn}
use Rattle.tables.specs.Occurrences.{occurrences_in}
use Rattle.constraint.specs.declared.kinds.Head.{Head}
use Rattle.constraint.specs.Answers.{counts_in}
use Rattle.constraint.specs.Decoded.{checked_at}
use Rattle.constraint_end.specs.Ends.{whole_at}
use Rattle.constraint_end.specs.Length.{list_length}

pub record Ready (loads groups list : List ℕ) (h : Head) : Type 0 where
  pub counts : length loads ≡ 256
  pub room : length list ≡ 2048
  pub resources : h.resources ≤ 255
  pub numbers : h.groups ≤ 2048
  pub events : h.events ≤ 2048
  pub rows : RowsIn groups h.groups

-- the same, where the rows of the events are lent instead of the counts
pub record Lent (resources groups list : List ℕ) (h : Head) : Type 0 where
  pub room : length list ≡ 2048
  pub numbers : (h.resources ≤ 255) × (h.groups ≤ 2048) × (h.events ≤ 1024)
  pub events : RowsIn resources h.events
  pub rows : RowsIn groups h.groups

-- the length of a kind's counted list by the tables, where used says how many events use a resource
abbrev pub length_by : (ℕ → ℕ) → List ℕ → Head → Kind → ℕ
length_by used groups h k = list_length h.times used (rows groups h.groups) k

-- a constraint checked by the tables
abbrev pub checked_by : (ℕ → ℕ) → List ℕ → Head → List ℕ → ℕ → Parsed Constraint
checked_by used groups h s at = checked_at (counts_in h) (length_by used groups h) s at

-- all constraints of a file, and all up to its end
abbrev pub checked_all : (ℕ → ℕ) → List ℕ → Head → List ℕ → Parsed (List Constraint)
checked_all used groups h s = repeat h.constraints (checked_by used groups h s) h.start

abbrev pub checked_whole : (ℕ → ℕ) → List ℕ → Head → List ℕ → Parsed (List Constraint)
checked_whole used groups h s = whole_at s h.constraints (checked_by used groups h s) h.start

-- how many events use a resource: by counts, and by the rows of the first n events
abbrev pub by_counts : List ℕ → ℕ → ℕ
by_counts loads r = get_or loads r 0

abbrev pub by_rows : List ℕ → ℕ → ℕ → ℕ
by_rows resources n r = occurrences_in r (rows resources n)
