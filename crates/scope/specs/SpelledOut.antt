-- A file with its groups spelled out, as order 6 compares a file with windows: T stands in place of the 0 and the calendar, the
-- count of groups takes in the windows, and each window is a list of times. Every other byte is as it was.
use Rattle.std.specs.Prelude.{ℕ, ◌+◌, ◌-◌, ◌/◌, ◌%◌, cond, length, take, drop, ltb}
use mathlib.Core.List.{List, [], ◌∷◌, ◌++◌, flat_map}
use Rattle.scope.specs.Parsed.{Parsed, got, and_then, repeat}
use Rattle.scope.specs.Number.{limited, listed}
use Rattle.scope.specs.Calendar.{windows_after}
use Rattle.scope.specs.Instance.{times_at, sizes_at, event_at}

-- the bytes of a number below 16,384
unfoldable pub spelt : ℕ → List ℕ
spelt v = cond (ltb v 128) (v ∷ []) ((128 + v % 128) ∷ (v / 128) ∷ [])

-- of a list: its count and its members
abbrev pub spelt_list : List ℕ → List ℕ
spelt_list ts = spelt (length ts) ++ flat_map spelt ts

-- the bytes from an offset to before another
abbrev pub bytes_from : (a b : ℕ) → List ℕ → List ℕ
bytes_from a b s = take (b - a) (drop a s)

unfoldable pub spelled_out : List ℕ → Parsed (List ℕ)
spelled_out s =
    and_then (times_at s)
    (λ t a.
    and_then (sizes_at s a)
    (λ n b.
    and_then (repeat n.0 (event_at t.count n.1 s) b)
    (λ es c.
    and_then (limited 0 1024 s c)
    (λ G d.
    and_then (repeat G (listed t.count s) d)
    (λ gs e.
    and_then (windows_after t.days s e)
    (λ ws end.
    got
    (spelt t.count
    ++ (bytes_from a c s
    ++ (spelt (length gs + length ws) ++ (bytes_from d e s ++ (flat_map spelt_list ws ++ drop end s)))))
    end))))))
