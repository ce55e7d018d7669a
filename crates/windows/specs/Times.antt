-- The times of a file that were read, and the days of its calendar.
use Rattle.std.specs.Prelude.{ℕ, ◌≡◌, List}
use Rattle.std.proofs.Math.Option.{none}
use Rattle.scope.specs.Parsed.{Parsed, got, refused, repeat}
use Rattle.scope.specs.Calendar.{Period, day_at, calendar_at}
use Rattle.scope.specs.Instance.{Times, times_at}
use Rattle.parsing.specs.Parsing.{list_of}

-- the times of a file; of a refused one, none
abbrev pub times_of : Parsed Times → Times
times_of (got t next) = t
times_of (refused k v) = record { count = 0; days = none }

abbrev pub times_in : List ℕ → Times
times_in s = times_of (times_at s)

-- the days of a calendar, which stand after the 0
abbrev pub days_in : List ℕ → List (List Period)
days_in s = list_of (repeat 7 (day_at s) 1)

-- a calendar that was read
pub record Calendared (s : List ℕ) : Type 0 where
  pub end : ℕ
  pub read : calendar_at s 1 ≡ got (days_in s) end

-- so many times that were read
pub record TimesRead (s : List ℕ) (count : ℕ) : Type 0 where
  pub next : ℕ
  pub read : times_at s ≡ got (times_in s) next
  pub so_many : (times_in s).count ≡ count
