-- A constraint without the checks at its end: kind, weight and fields.
use Rattle.std.specs.Prelude.{ℕ, List}
use Rattle.scope.specs.Parsed.{Parsed, got, and_then}
use Rattle.scope.specs.Number.{limited}
use Rattle.scope.specs.Kinds.{Kind, Constraint, Event, duration_of, users, group_at, counted_of, longest}
use Rattle.scope.specs.Instance.{Counts, fields_read, fields_of, ordered, distinct, ended}
use Rattle.constraint.specs.Bounds.{low_of, high_of}

unfoldable pub decoded_at : Counts → List ℕ → ℕ → Parsed Constraint
decoded_at n s at =
    and_then (limited 1 11 s at)
    (λ kind next.
    and_then (limited 0 1000 s next)
    (λ weight more. and_then (fields_read (fields_of n kind) s more) (λ k end. got (record { weight = weight; kind = k }) end)))

-- the checks at the end of a constraint whose kind stands at an offset and whose counted list is as long as len says
abbrev pub ended_by : (Kind → ℕ) → ℕ → Constraint → ℕ → Parsed Constraint
ended_by len at c end =
    ended at (distinct c.kind) (ordered c.kind) (low_of c.kind) (high_of c.kind) (len c.kind) c.weight c.kind end

-- a constraint that is read and then checked
unfoldable pub checked_at : Counts → (Kind → ℕ) → List ℕ → ℕ → Parsed Constraint
checked_at n len s at = and_then (decoded_at n s at) (ended_by len at)

-- how long the longest counted list of a kind is, in an instance
abbrev pub longest_of : ℕ → List Event → List (List ℕ) → Kind → ℕ
longest_of T es gs k = longest (counted_of T (duration_of es) (λ r. users r es) (group_at gs) k).lists
