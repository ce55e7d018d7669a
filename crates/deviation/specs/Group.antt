-- Counts over the times of a group.
use Rattle.std.specs.Prelude.{ℕ, ◌+◌, ◌<◌, ◌≤◌, List, length, get_or}

-- each member of a row is a time whose byte is there, where the bytes of time 1 and on begin at base
pub record Inside (b : List ℕ) (base : ℕ) (row : List ℕ) : Type 0 where
  pub low : (k : ℕ) → k < length row → 1 ≤ get_or row k 0
  pub high : (k : ℕ) → k < length row → base + get_or row k 0 ≤ length b
