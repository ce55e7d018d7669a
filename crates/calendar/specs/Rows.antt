-- A calendar as the code holds it: for each day a row of up to 24 periods with their times, and none after the last.
use Rattle.std.specs.Prelude.{ℕ, suc, ◌+◌, ◌-◌, List, [], ◌∷◌, ◌++◌, length, replicate, Option, Some, None}
use Rattle.scope.specs.Calendar.{Period as Span}
use Rattle.calendar.specs.declared.days.Period.{Period}

-- the periods of a day after t times, each with its time
unfoldable pub numbered : ℕ → List Span → List (Option Period)
numbered t [] = []
numbered t (p ∷ ps) = Some (record { start = p.start; end = p.end; time = suc t }) ∷ numbered (suc t) ps

unfoldable pub day_row : ℕ → List Span → List (Option Period)
day_row t ps = numbered t ps ++ replicate (24 - length ps) None

abbrev pub blank_day : List (Option Period)
blank_day = replicate 24 None

-- the days after t times, one after another
unfoldable pub rows_after : ℕ → List (List Span) → List (List (Option Period))
rows_after t [] = []
rows_after t (d ∷ ds) = day_row t d ∷ rows_after (t + length d) ds

unfoldable pub calendar_rows : List (List Span) → List (List (Option Period))
calendar_rows days = rows_after 0 days ++ replicate (7 - length days) blank_day
