-- Which numbers the refusals of an operation have, place by place.
use Prim.Native.Nat.{ℕ, zero, suc, ◌*◌}
use mathlib.Core.Path.{◌≡◌}
use mathlib.Core.Bool.{Bool, true, false, cond, ◌||◌}
use mathlib.Core.List.{List, [], ◌∷◌}
use mathlib.Core.Option.{Option, none, some}
use lib.Dec.{eqb, leb, ltb}
use lib.ListN.{length, drop}
use Rattle.scope.specs.Parsed.{Parsed, got, refused, Answer, answered, refusal, and_then, unless, cons, repeat, with, provided}
use Rattle.scope.specs.Number.{Front, broken, whole, within, front, number_from, number, limited, reference, references, listed}
use Rattle.scope.specs.Kinds.{Event, Kind, longest, duration_of, users, group_at, Counted, counted_of}
use Rattle.scope.specs.Instance.{counts_of, Instance, event_at, Fields, a_reference, a_list, a_number, the_kind, fields_read, fields_of, distinct, ordered, ended, constraint_at, Times, times_at, sizes_at, groups_at, all_groups_at, constraints_at, file_up_to, parse}
use Rattle.scope.specs.Calendar.{Period, limited_in, period_at, periods_at, day_at, period_count, calendar_at, window_at, windows_at, windows_after}
use Rattle.scope.specs.Score.{slots, truth, first_wrong, first_above, unless_found, of_timetable}

-- one of some numbers
abbrev pub one_of : List ℕ → ℕ → Bool
one_of [] k = false
one_of (n ∷ ns) k = eqb k n || one_of ns k

-- if it is a refusal, its number is one of these
pub data Within (ns : List ℕ) {A : Type 0} : Answer A → Type 0 where
  accepts : {a : A} → Within ns (answered a)
  refuses : {k v : ℕ} → one_of ns k ≡ true → Within ns (refusal k v)

data Reads (ns : List ℕ) {A : Type 0} : Parsed A → Type 0 where
  reads : {a : A} {next : ℕ} → Reads ns (got a next)
  stops : {k v : ℕ} → one_of ns k ≡ true → Reads ns (refused k v)

module _ {ns : List ℕ} where
  after : {A B : Type 0} {p : Parsed A} {f : A → ℕ → Parsed B}
      → Reads ns p
      → ((a : A) (next : ℕ) → Reads ns (f a next))
      → Reads ns (and_then p f)
  after reads h = h _ _
  after (stops e) h = stops e

  tested : {A : Type 0} (b : Bool) (k v : ℕ) {p : Parsed A} → one_of ns k ≡ true → Reads ns p → Reads ns (unless b k v p)
  tested true k v e h = h
  tested false k v e h = stops e

  joined : {A : Type 0} (a : A) {p : Parsed (List A)} → Reads ns p → Reads ns (cons a p)
  joined a reads = reads
  joined a (stops e) = stops e

  repeated : {A : Type 0} (n : ℕ) (f : ℕ → Parsed A) (at : ℕ) → ((at : ℕ) → Reads ns (f at)) → Reads ns (repeat n f at)
  unfolding repeat
  repeated zero f at h = reads
  repeated (suc n) f at h = after (h at) (λ a next. joined a (repeated n f next h))

-- the reader gives 1 to 6, 19 and 22
pub record Reader (ns : List ℕ) : Type 0 where
  pub e1 : one_of ns 1 ≡ true
  pub e2 : one_of ns 2 ≡ true
  pub e3 : one_of ns 3 ≡ true
  pub e4 : one_of ns 4 ≡ true
  pub e5 : one_of ns 5 ≡ true
  pub e6 : one_of ns 6 ≡ true
  pub e19 : one_of ns 19 ≡ true
  pub e22 : one_of ns 22 ≡ true

module _ {ns : List ℕ} (r : Reader ns) where
  from_front : (at : ℕ) (f : Front) → Reads ns (number_from at f)
  from_front at broken = stops r.e1
  from_front at (whole v n) = reads

  module _ (s : List ℕ) (at : ℕ) where
    a-number : Reads ns (number s at)
    unfolding number
    a-number = from_front at (within (front (drop at s)))

    a_limit : (lo hi : ℕ) → Reads ns (limited lo hi s at)
    unfolding limited
    a_limit lo hi = after a-number (λ v next. tested (leb lo v) 2 at r.e2 (tested (leb v hi) 2 at r.e2 reads))

    a_limit_in : (place lo hi : ℕ) → Reads ns (limited_in place lo hi s at)
    unfolding limited_in
    a_limit_in place lo hi = after a-number (λ v next. tested (leb lo v) 22 place r.e22 (tested (leb v hi) 22 place r.e22 reads))

    a-reference : (before n : ℕ) → Reads ns (reference before n s at)
    unfolding reference
    a-reference before n =
        after a-number (λ v next. tested (ltb before v) 3 at r.e3 (tested (leb v n) 3 at r.e3 reads))

  some_references : (k before n : ℕ) (s : List ℕ) (at : ℕ) → Reads ns (references k before n s at)
  unfolding references
  some_references zero before n s at = reads
  some_references (suc k) before n s at =
      after (a-reference s at before n) (λ v next. joined v (some_references k v n s next))

  module _ (s : List ℕ) where
    a-list : (n at : ℕ) → Reads ns (listed n s at)
    unfolding listed
    a-list n at = after (a_limit s at 0 n) (λ count next. some_references count 0 n s next)

    an_event : (T R at : ℕ) → Reads ns (event_at T R s at)
    unfolding event_at
    an_event T R at = after (a_limit s at 1 T) (λ d next. after (a-list R next) (λ rs end. reads))

    the_fields : (f : Fields) (at : ℕ) → Reads ns (fields_read f s at)
    unfolding fields_read
    the_fields (a_reference n f) at = after (a-reference s at 0 n) (λ v next. the_fields (f v) next)
    the_fields (a_list n f) at = after (a-list n at) (λ vs next. the_fields (f vs) next)
    the_fields (a_number lo hi f) at = after (a_limit s at lo hi) (λ v next. the_fields (f v) next)
    the_fields (the_kind k) at = reads

    an_end : (at : ℕ) (d o : Bool) (lo hi n weight : ℕ) (k : Kind) (end : ℕ) → Reads ns (ended at d o lo hi n weight k end)
    unfolding ended
    an_end at d o lo hi n weight k end =
        tested (leb n 255) 4 at r.e4
        (tested d 19 at r.e19
        (tested o 5 at r.e5 (tested (leb lo hi) 5 at r.e5 (tested (leb lo n) 5 at r.e5 reads))))

    module _ (T R : ℕ) (es : List Event) (gs : List (List ℕ)) where
      a_constraint : (at : ℕ) → Reads ns (constraint_at T R es gs s at)
      unfolding constraint_at
      a_constraint at =
          after (a_limit s at 1 11)
          (λ kind next.
          after (a_limit s next 0 1000)
          (λ weight more.
          after (the_fields (fields_of (counts_of T R es gs) kind) more) (λ k end.
          let c : Counted = counted_of T (duration_of es) (λ r. users r es) (group_at gs) k in
          an_end at (distinct k) (ordered k) c.lo c.hi (longest c.lists) weight k end)))

      some_constraints : (at : ℕ) → Reads ns (constraints_at T R es gs s at)
      unfolding constraints_at
      some_constraints at =
          after (a_limit s at 0 4096) (λ count next. repeated count (constraint_at T R es gs s) next a_constraint)

    -- calendar and windows
    a_period : (before at : ℕ) → Reads ns (period_at before s at)
    unfolding period_at
    a_period before at =
        after (a_limit_in s at at 0 1440)
        (λ a next.
        after (a_limit_in s next at 0 1440)
        (λ b end. tested (ltb a b) 22 at r.e22 (tested (leb before a) 22 at r.e22 reads)))

    some_periods : (count before at : ℕ) → Reads ns (periods_at count before s at)
    unfolding periods_at
    some_periods zero before at = reads
    some_periods (suc n) before at = after (a_period before at) (λ p next. joined p (some_periods n p.end next))

    a_day : (at : ℕ) → Reads ns (day_at s at)
    unfolding day_at
    a_day at = after (a_limit_in s at at 0 24) (λ count next. some_periods count 0 next)

    a_calendar : (at : ℕ) → Reads ns (calendar_at s at)
    unfolding calendar_at
    a_calendar at =
        after (repeated 7 (day_at s) at a_day)
        (λ days next. tested (leb 1 (period_count days)) 22 0 r.e22 (tested (leb (period_count days) 125) 22 0 r.e22 reads))

    a_window : (days : List (List Period)) (at : ℕ) → Reads ns (window_at days s at)
    unfolding window_at
    a_window days at =
        after (a_limit_in s at at 1 7)
        (λ d next. after (a_limit_in s next at 0 1440) (λ from more. after (a_limit_in s more at 0 1440) (λ to end. reads)))

    some_windows : (o : Option (List (List Period))) (at : ℕ) → Reads ns (windows_after o s at)
    unfolding windows_at
    some_windows none at = reads
    some_windows (some days) at =
        after (a_limit_in s at at 0 1024) (λ count next. repeated count (window_at days s) next (a_window days))

    either : {A : Type 0} (b : Bool) {p q : Parsed A} → Reads ns p → Reads ns q → Reads ns (cond b p q)
    either true h k = h
    either false h k = k

    the_times : Reads ns (times_at s)
    unfolding times_at
    the_times = after (a_limit s 0 0 125) (λ T next. either (eqb T 0) (after (a_calendar next) (λ days end. reads)) reads)

    the_sizes : (at : ℕ) → Reads ns (sizes_at s at)
    unfolding sizes_at
    the_sizes at = after (a_limit s at 1 1024) (λ E b. after (a_limit s b 0 99) (λ R c. reads))

    some_groups : (t : Times) (at : ℕ) → Reads ns (all_groups_at 1024 t s at)
    unfolding all_groups_at groups_at
    some_groups t at =
        after (after (a_limit s at 0 1024) (λ count next. repeated count (listed t.count s) next (a-list t.count)))
        (λ gs next. after (some_windows t.days next) (λ ws end. reads))

    a_file : Reads ns (parse s)
    unfolding parse file_up_to
    a_file =
        after the_times
        (λ t a.
        after (the_sizes a)
        (λ n b.
        after (repeated n.0 (event_at t.count n.1 s) b (an_event t.count n.1))
        (λ es c.
        after (some_groups t c)
        (λ gs d.
        after (some_constraints t.count n.1 es gs d) (λ cs end. tested (leb (length s) end) 6 end r.e6 reads)))))

  -- an operation on a file that was read
  pub on_file : {A : Type 0} (s : List ℕ) {f : Instance → Answer A}
      → ((i : Instance) → Within ns (f i))
      → Within ns (with (parse s) f)
  on_file s h = of_parsed (a_file s) h
    where
      of_parsed : {A : Type 0} {p : Parsed Instance} {f : Instance → Answer A} → Reads ns p → ((i : Instance) → Within ns (f i)) → Within ns (with p f)
      of_parsed reads h = h _
      of_parsed (stops e) h = refuses e

module _ {ns : List ℕ} {A : Type 0} {a : Answer A} where
  -- a test, and a search
  pub given_if : (b : Bool) (k v : ℕ) → one_of ns k ≡ true → Within ns a → Within ns (provided b k v a)
  given_if true k v e h = h
  given_if false k v e h = refuses e

  pub given_for : (k : ℕ) (o : Option ℕ) → one_of ns k ≡ true → Within ns a → Within ns (unless_found k o a)
  given_for k none e h = h
  given_for k (some v) e h = refuses e

-- a timetable gives 10 to 12
pub record Timetables (ns : List ℕ) : Type 0 where
  pub e10 : one_of ns 10 ≡ true
  pub e11 : one_of ns 11 ≡ true
  pub e12 : one_of ns 12 ≡ true

pub on-timetable : {ns : List ℕ} {A : Type 0} {a : Answer A} (t : Timetables ns) (i : Instance) (b : List ℕ)
    → Within ns a
    → Within ns (of_timetable i b a)
on-timetable t i b h =
    given_if (eqb (length b) (2 * slots i)) 10 (2 * slots i) t.e10
    (given_for 11 (first_above 0 b) t.e11 (given_for 12 (first_wrong i (truth i b) 1 i.events) t.e12 h))
