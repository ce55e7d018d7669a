-- Sums over a list that stands in a store.
use Rattle.std.specs.Prelude.{ℕ, ◌+◌, ◌-◌, ◌*◌, ◌<◌, ◌≤◌, length, get_or}
use mathlib.Core.List.{List, map, sum}
use Rattle.tables.specs.Rows.{row_at, RowIn}
use Rattle.deviation.specs.Group.{Inside}

-- the sum of f over a list
abbrev pub total : (ℕ → ℕ) → List ℕ → ℕ
total f xs = sum ◌+◌ 0 (map f xs)

-- the first n members of a store are events whose bytes are there, and the group is there
pub record EventsListed (b : List ℕ) (base T : ℕ) (gs : List ℕ) (g : ℕ) (l : List ℕ) (n : ℕ) : Type 0 where
  pub room : n ≤ length l
  pub count : n ≤ 2048
  pub row : RowIn gs g
  pub low : (k : ℕ) → k < n → 1 ≤ get_or l k 0
  pub inside : (k : ℕ) → k < n → Inside b (base + (get_or l k 0 - 1) * T) (row_at gs g)
  pub high : (k : ℕ) → k < n → base + (get_or l k 0 - 1) * T ≤ length b

-- the first n members of a store are groups that are there, with bytes for their times
pub record GroupsListed (b : List ℕ) (base : ℕ) (gs l : List ℕ) (n : ℕ) : Type 0 where
  pub room : n ≤ length l
  pub count : n ≤ 2048
  pub low : (k : ℕ) → k < n → 1 ≤ get_or l k 0
  pub row : (k : ℕ) → k < n → RowIn gs (get_or l k 0 - 1)
  pub inside : (k : ℕ) → k < n → Inside b base (row_at gs (get_or l k 0 - 1))
