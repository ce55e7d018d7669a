-- A calendar of days and periods, its windows as groups of times, and refusal 22 (order 6).
use Rattle.std.specs.Prelude.{ℕ, zero, suc, ◌+◌, ◌-◌, cond, ◌&&◌, List, [], ◌∷◌, length, get_or, take, leb, ltb}
use Rattle.std.proofs.Math.Option.{Option, none, some}
use Rattle.scope.specs.Parsed.{Parsed, got, and_then, unless, cons, repeat}
use Rattle.scope.specs.Number.{number}

-- a period of a day, in minutes from midnight
pub record Period : Type 0 where
  pub start : ℕ
  pub end : ℕ

-- a number from lo to hi, else 22 with the offset of the count, period or window that it belongs to
unfoldable pub limited_in : (place lo hi : ℕ) → List ℕ → ℕ → Parsed ℕ
limited_in place lo hi s at =
    and_then (number s at) (λ v next. unless (leb lo v) 22 place (unless (leb v hi) 22 place (got v next)))

-- a start and an end "in minutes from 0 to 1,440, start below end, a period starting no earlier than the previous one of its day ends"
unfoldable pub period_at : (before : ℕ) → List ℕ → ℕ → Parsed Period
period_at before s at =
    and_then (limited_in at 0 1440 s at)
    (λ a next.
    and_then (limited_in at 0 1440 s next)
    (λ b end. unless (ltb a b) 22 at (unless (leb before a) 22 at (got (record { start = a; end = b }) end))))

-- so many periods of a day, where the one before them ends
unfoldable pub periods_at : (count before : ℕ) → List ℕ → ℕ → Parsed (List Period)
periods_at zero before s at = got [] at
periods_at (suc n) before s at = and_then (period_at before s at) (λ p next. cons p (periods_at n p.end s next))

-- a day: a count up to 24, and its periods
unfoldable pub day_at : List ℕ → ℕ → Parsed (List Period)
day_at s at = and_then (limited_in at 0 24 s at) (λ count next. periods_at count 0 s next)

-- how many periods some days have
unfoldable pub period_count : List (List Period) → ℕ
period_count [] = 0
period_count (d ∷ ds) = length d + period_count ds

-- seven days; after the last, 22 with the offset of the 0, which is the file's first byte, for no periods or more than 125
unfoldable pub calendar_at : List ℕ → ℕ → Parsed (List (List Period))
calendar_at s at =
    and_then (repeat 7 (day_at s) at)
    (λ days next. unless (leb 1 (period_count days)) 22 0 (unless (leb (period_count days) 125) 22 0 (got days next)))

-- of a day's periods, of which the first is time t + 1, those "that start at or after from and end at or before to"
unfoldable pub shown : (from to t : ℕ) → List Period → List ℕ
shown from to t [] = []
shown from to t (p ∷ ps) =
    cond (leb from p.start && leb p.end to) (suc t ∷ shown from to (suc t) ps) (shown from to (suc t) ps)

-- the group that a window on day number d stands for: "Times number the periods day by day"
unfoldable pub window_of : List (List Period) → (d from to : ℕ) → List ℕ
window_of days d from to = shown from to (period_count (take (d - 1) days)) (get_or days (d - 1) [])

-- a window: day 1..7, from and to 0..1,440
unfoldable pub window_at : List (List Period) → List ℕ → ℕ → Parsed (List ℕ)
window_at days s at =
    and_then (limited_in at 1 7 s at)
    (λ d next.
    and_then (limited_in at 0 1440 s next)
    (λ from more. and_then (limited_in at 0 1440 s more) (λ to end. got (window_of days d from to) end)))

-- up to 1,024 windows, in a file with a calendar
unfoldable pub windows_at : List (List Period) → List ℕ → ℕ → Parsed (List (List ℕ))
windows_at days s at = and_then (limited_in at 0 1024 s at) (λ count next. repeat count (window_at days s) next)

abbrev pub windows_after : Option (List (List Period)) → List ℕ → ℕ → Parsed (List (List ℕ))
windows_after none s at = got [] at
windows_after (some days) s at = windows_at days s at
