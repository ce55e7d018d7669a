-- The instance file, and refusals 1 to 6, 19 and 22 in file order.
use Rattle.std.specs.Prelude.{ℕ, ◌-◌, Bool, true, not, cond, List, [], ◌∷◌, ◌++◌, length, get_or, leb, eqb}
use Rattle.std.proofs.Math.Option.{Option, none, some}
use Rattle.scope.specs.Parsed.{Parsed, got, and_then, unless, repeat}
use Rattle.scope.specs.Number.{limited, reference, listed}
use Rattle.scope.specs.Calendar.{Period, period_count, calendar_at, windows_after}
use Rattle.scope.specs.Kinds.{Event, Kind, clash, unavailable, preferred, split, spread, busy, cluster, idle, distribute, lengths, precedence, Constraint, Counted, duration_of, users, group_at, counted_of, longest}

pub record Instance : Type 0 where
  pub times : ℕ
  pub resources : ℕ
  pub events : List Event
  pub groups : List (List ℕ)
  pub constraints : List Constraint

-- how many things there are to refer to
pub record Counts : Type 0 where
  pub times : ℕ
  pub events : ℕ
  pub resources : ℕ
  pub groups : ℕ

abbrev pub counts_of : ℕ → ℕ → List Event → List (List ℕ) → Counts
counts_of T R es gs = record { times = T; events = length es; resources = R; groups = length gs }

-- an event: duration 1..T, and its resources
unfoldable pub event_at : ℕ → ℕ → List ℕ → ℕ → Parsed Event
event_at T R s at =
    and_then (limited 1 T s at) (λ d next. and_then (listed R s next) (λ rs end. got (record { duration = d; resources = rs }) end))

-- the fields of a constraint, one after another, and the kind that they make: a reference to one of n things, an ascending
-- list of such references, a number from lo to hi
pub data Fields : Type 0 where
  a_reference : (n : ℕ) → (ℕ → Fields) → Fields
  a_list : (n : ℕ) → (List ℕ → Fields) → Fields
  a_number : (lo hi : ℕ) → (ℕ → Fields) → Fields
  the_kind : Kind → Fields

unfoldable pub fields_read : Fields → List ℕ → ℕ → Parsed Kind
fields_read (a_reference n f) s at = and_then (reference 0 n s at) (λ v next. fields_read (f v) s next)
fields_read (a_list n f) s at = and_then (listed n s at) (λ vs next. fields_read (f vs) s next)
fields_read (a_number lo hi f) s at = and_then (limited lo hi s at) (λ v next. fields_read (f v) s next)
fields_read (the_kind k) s at = got k at

-- lo and hi, which end a constraint: of a count, and of a gap
abbrev pub bounds : (ℕ → ℕ → Kind) → Fields
bounds k = a_number 0 255 (λ lo. a_number 0 255 (λ hi. the_kind (k lo hi)))

abbrev pub gap_bounds : (ℕ → ℕ → Kind) → Fields
gap_bounds k = a_number 0 124 (λ lo. a_number 0 124 (λ hi. the_kind (k lo hi)))

-- the fields of each kind, 1 to 11, a row for each
unfoldable pub fields_table : Counts → List Fields
fields_table n =
    a_reference n.resources (λ r. the_kind (clash r))
    ∷ a_reference n.resources (λ r. a_reference n.groups (λ g. the_kind (unavailable r g)))
    ∷ a_reference n.events (λ e. a_reference n.groups (λ g. the_kind (preferred e g)))
    ∷ a_reference n.events (λ e. bounds (split e))
    ∷ a_list n.events (λ vs. a_reference n.groups (λ g. bounds (spread vs g)))
    ∷ a_reference n.resources (λ r. a_reference n.groups (λ g. bounds (busy r g)))
    ∷ a_reference n.resources (λ r. a_list n.groups (λ hs. bounds (cluster r hs)))
    ∷ a_reference n.resources (λ r. a_list n.groups (λ hs. bounds (idle r hs)))
    ∷ a_reference n.events (λ e. a_number 1 n.times (λ l. bounds (distribute e l)))
    ∷ a_reference n.events (λ e. a_number 1 n.times (λ a. a_number 1 n.times (λ b. the_kind (lengths e a b))))
    ∷ a_reference n.events (λ a. a_reference n.events (λ b. gap_bounds (precedence a b)))
    ∷ []

abbrev pub fields_of : Counts → ℕ → Fields
fields_of n k = get_or (fields_table n) (k - 1) (the_kind (clash 0))

-- of kind 10: shortest is not above longest; of kind 11: lo is not above hi
abbrev pub ordered : Kind → Bool
ordered (clash r) = true
ordered (unavailable r g) = true
ordered (preferred e g) = true
ordered (split e lo hi) = true
ordered (spread vs g lo hi) = true
ordered (busy r g lo hi) = true
ordered (cluster r hs lo hi) = true
ordered (idle r hs lo hi) = true
ordered (distribute e n lo hi) = true
ordered (lengths e a b) = leb a b
ordered (precedence a b lo hi) = leb lo hi

-- of kind 11: the two events are not one
abbrev pub distinct : Kind → Bool
distinct (clash r) = true
distinct (unavailable r g) = true
distinct (preferred e g) = true
distinct (split e lo hi) = true
distinct (spread vs g lo hi) = true
distinct (busy r g lo hi) = true
distinct (cluster r hs lo hi) = true
distinct (idle r hs lo hi) = true
distinct (distribute e n lo hi) = true
distinct (lengths e a b) = true
distinct (precedence a b lo hi) = not (eqb a b)

-- the checks at a constraint's end, with the offset of its kind: 4 for a counted list longer than 255, 19 for two events that are
-- one, 5 for lengths or gaps that are not in order, for lo above hi as written or above the list's length
unfoldable pub ended : (at : ℕ) (d o : Bool) (lo hi n weight : ℕ) → Kind → ℕ → Parsed Constraint
ended at d o lo hi n weight k end =
    unless (leb n 255) 4 at
    (unless d 19 at
    (unless o 5 at (unless (leb lo hi) 5 at (unless (leb lo n) 5 at (got (record { weight = weight; kind = k }) end)))))

-- the same, by what a kind counts
abbrev pub ended_as : ℕ → Counted → ℕ → Kind → ℕ → Parsed Constraint
ended_as at c weight k end = ended at (distinct k) (ordered k) c.lo c.hi (longest c.lists) weight k end

-- a constraint: kind 1..11, weight 0..1,000, its fields
unfoldable pub constraint_at : ℕ → ℕ → List Event → List (List ℕ) → List ℕ → ℕ → Parsed Constraint
constraint_at T R es gs s at =
    and_then (limited 1 11 s at)
    (λ kind next.
    and_then (limited 0 1000 s next)
    (λ weight more.
    and_then (fields_read (fields_of (counts_of T R es gs) kind) s more) (λ k end. ended_as at (counted_of T (duration_of es) (λ r. users r es) (group_at gs) k) weight k end)))

-- how many times there are, and the days of the calendar that they come from, if there is one
pub record Times : Type 0 where
  pub count : ℕ
  pub days : Option (List (List Period))

-- times 1..125; "A 0 in place of T says that a calendar follows"
unfoldable pub times_at : List ℕ → Parsed Times
times_at s =
    and_then (limited 0 125 s 0)
    (λ T next.
    cond (eqb T 0)
    (and_then (calendar_at s next) (λ days end. got (record { count = period_count days; days = some days }) end))
    (got (record { count = T; days = none }) next))

-- events 1..1,024, resources 0..99
unfoldable pub sizes_at : List ℕ → ℕ → Parsed (ℕ × ℕ)
sizes_at s at = and_then (limited 1 1024 s at) (λ E next. and_then (limited 0 99 s next) (λ R end. got (E, R) end))

-- up to so many time groups
unfoldable pub groups_at : (most T : ℕ) → List ℕ → ℕ → Parsed (List (List ℕ))
groups_at most T s at = and_then (limited 0 most s at) (λ count next. repeat count (listed T s) next)

-- and the windows of a calendar, which "stand after the time groups and are numbered on from them"
unfoldable pub all_groups_at : (most : ℕ) → Times → List ℕ → ℕ → Parsed (List (List ℕ))
all_groups_at most t s at =
    and_then (groups_at most t.count s at)
    (λ gs next. and_then (windows_after t.days s next) (λ ws end. got (gs ++ ws) end))

-- up to 4,096 constraints
unfoldable pub constraints_at : ℕ → ℕ → List Event → List (List ℕ) → List ℕ → ℕ → Parsed (List Constraint)
constraints_at T R es gs s at =
    and_then (limited 0 4096 s at) (λ count next. repeat count (constraint_at T R es gs s) next)

-- the whole file, with up to so many time groups; 6 where bytes are left over
unfoldable pub file_up_to : (most : ℕ) → List ℕ → Parsed Instance
file_up_to most s =
    and_then (times_at s)
    (λ t a.
    and_then (sizes_at s a)
    (λ n b.
    and_then (repeat n.0 (event_at t.count n.1 s) b)
    (λ es c.
    and_then (all_groups_at most t s c)
    (λ gs d.
    and_then (constraints_at t.count n.1 es gs s d)
    (λ cs end.
    unless (leb (length s) end) 6 end
    (got (record { times = t.count; resources = n.1; events = es; groups = gs; constraints = cs }) end))))))

-- with up to 1,024
unfoldable pub parse : List ℕ → Parsed Instance
parse s = file_up_to 1024 s
