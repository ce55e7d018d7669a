-- The file in two parts: the tables, and the constraints up to the end.
use Rattle.std.specs.Prelude.{ℕ, List}
use Rattle.scope.specs.Parsed.{Parsed, got, and_then, repeat}
use Rattle.scope.specs.Kinds.{Event, Constraint}
use Rattle.scope.specs.Number.{limited}
use Rattle.scope.specs.Instance.{Instance, event_at, times_at, all_groups_at, constraint_at}
use Rattle.calendar.specs.Answers.{times_counted}
use Rattle.windows.specs.Times.{times_in}

-- an instance without its constraints
pub record Start : Type 0 where
  pub times : ℕ
  pub resources : ℕ
  pub events : List Event
  pub groups : List (List ℕ)

-- times, events and resources
unfoldable pub sizes_in : List ℕ → Parsed (ℕ × ℕ × ℕ)
sizes_in s =
    and_then (times_counted (times_at s))
    (λ T a. and_then (limited 1 1024 s a) (λ E b. and_then (limited 0 99 s b) (λ R c. got (T, E, R) c)))

unfoldable pub tables_at : List ℕ → Parsed Start
tables_at s =
    and_then (sizes_in s)
    (λ n a.
    and_then (repeat n.1 (event_at n.0 n.2 s) a)
    (λ es b.
    and_then (all_groups_at 1024 (times_in s) s b) (λ gs c. got (record { times = n.0; resources = n.2; events = es; groups = gs }) c)))

abbrev pub with_constraints : Start → List Constraint → Instance
with_constraints t cs =
    record { times = t.times; resources = t.resources; events = t.events; groups = t.groups; constraints = cs }

-- a constraint of an instance that starts so
abbrev pub constraint_in : Start → List ℕ → ℕ → Parsed Constraint
constraint_in t s = constraint_at t.times t.resources t.events t.groups s
