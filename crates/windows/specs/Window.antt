-- A window's numbers, and the times that it shows of a row of periods as the code holds it.
use Rattle.std.specs.Prelude.{ℕ, Bool, cond, ◌&&◌, List, [], ◌∷◌, leb, Option, Some, None}
use Rattle.scope.specs.Parsed.{Parsed, got, and_then}
use Rattle.scope.specs.Calendar.{limited_in}
use Rattle.calendar.specs.declared.days.Period.{Period}

-- day, from and to
unfoldable pub window_fields : List ℕ → ℕ → Parsed (ℕ × ℕ × ℕ)
window_fields s at =
    and_then (limited_in at 1 7 s at)
    (λ d next.
    and_then (limited_in at 0 1440 s next) (λ from more. and_then (limited_in at 0 1440 s more) (λ to end. got (d, from, to) end)))

-- a period lies within the window
abbrev pub fits : (from to : ℕ) → Period → Bool
fits from to p = leb from p.start && leb p.end to

unfoldable pub in_window : (from to : ℕ) → List (Option Period) → List ℕ
in_window from to [] = []
in_window from to (None ∷ ps) = in_window from to ps
in_window from to (Some p ∷ ps) = cond (fits from to p) (p.time ∷ in_window from to ps) (in_window from to ps)
