-- What is known of an accepted file's tables where a timetable of it is scored.
use Rattle.std.specs.Prelude.{ℕ, ◌*◌, ◌<◌, ◌≤◌, ◌≡◌, List, length}
use Rattle.scope.specs.Parsed.{got, repeat}
use Rattle.parsing.specs.Numbers.{Ascending}
use Rattle.tables.specs.Rows.{row_at, RowsIn}
use Rattle.constraint.specs.declared.kinds.Head.{Head}
use Rattle.constraint.specs.Answers.{counts_in}
use Rattle.constraint.specs.Decoded.{decoded_at}
use Rattle.instance.specs.Start.{SizesIn}
use Rattle.score.specs.Amounts.{decoded_of}

-- a timetable's bytes b can be scored
pub record Scorable (s b te tg l : List ℕ) (h : Head) : Type 0 where
  pub sizes : SizesIn h.times h.events h.resources
  pub groups_high : h.groups ≤ 2048
  pub constraints_high : h.constraints ≤ 4096
  pub table : length b ≡ 2 * (h.events * h.times)
  pub event-rows : RowsIn te h.events
  pub resources : (e : ℕ) → e < h.events → Ascending 99 0 (row_at te e)
  pub group-rows : RowsIn tg h.groups
  pub times : (g : ℕ) → g < h.groups → Ascending h.times 0 (row_at tg g)
  pub room : length l ≡ 2048
  pub whole : repeat h.constraints (decoded_at (counts_in h) s) h.start ≡ got (decoded_of s h) (length s)
