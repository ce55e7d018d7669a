-- What is known of events and groups that were read, and so of the tables' rows that hold them: laws.
use Prim.Native.Nat.{ℕ, zero, suc, ◌+◌, ◌*◌, ◌≤◌, ◌<◌}
use mathlib.Core.Path.{◌≡◌}
use mathlib.Core.List.{List, [], ◌∷◌}
use mathlib.Core.Logic.{⊎_elim}
use lib.ListN.{length}
use native.Mathlib.Nat.{not-suc-le-zero, le_of_suc-le-suc, eq-or-lt_of_le}
use native.Mathlib.Omega.{arith}
use Rattle.scope.specs.Parsed.{got, and_then, repeat}
use Rattle.scope.specs.Number.{limited, listed}
use Rattle.scope.specs.Kinds.{Event}
use Rattle.scope.specs.Instance.{event_at, groups_at}
use Rattle.parsing.proofs.laws.Parsing.{and_then-got, repeat-length}
use Rattle.parsing.specs.Each.{Each}
use Rattle.parsing.proofs.laws.Each.{each-front, each_last, repeat-each}
use Rattle.parsing.specs.Numbers.{Ascending}
use Rattle.parsing.proofs.laws.Numbers.{ascending-length, limited-got, listed-got, repeat-got}
use Rattle.tables.specs.Rows.{row_at, rows, event_of, events_of, RowIn, RowsIn}
use Rattle.tables.specs.Reading.{EventIn}

-- an event that was read, and where it ends
pub record EventAt (T R : ℕ) (s : List ℕ) (at : ℕ) (v : Event) (end : ℕ) : Type 0 where
  pub event : EventIn T R v
  pub ahead : at < end
  pub inside : end ≤ length s

pub event-got : (T R : ℕ) (s : List ℕ) (at : ℕ) {v : Event} {end : ℕ} → event_at T R s at ≡ got v end → EventAt T R s at v end
unfolding event_at
event-got T R s at {v} {end} e =
    let a = and_then-got (limited 1 T s at) (λ d next. and_then (listed R s next) (λ rs end. got (record { duration = d; resources = rs }) end)) e in
    let b = and_then-got (listed R s a.next) (λ rs end. got (record { duration = a.value; resources = rs }) end) a.rest in
    let h : ◌≡◌ {A = Event} (record { duration = a.value; resources = b.value }) v = cc b.rest in
    let k : b.next ≡ end = cc b.rest in
    let d = limited-got 1 T s at a.first in
    let l = listed-got R s a.next b.first in
    record { event = rw h at (mk d.low d.high l.ascending); ahead = omega arith; inside = omega arith }
  where
    mk : {d : ℕ} {rs : List ℕ} → 1 ≤ d → d ≤ T → Ascending R 0 rs → EventIn T R (record { duration = d; resources = rs })
    mk l h a = record { low = l; high = h; ascending = a }

-- the events and the groups that were read
pub record EventsAt (T R n : ℕ) (s : List ℕ) (at : ℕ) (es : List Event) (end : ℕ) : Type 0 where
  pub each : Each (EventIn T R) es
  pub count : length es ≡ n
  pub ahead : at ≤ end
  pub inside : at ≤ length s → end ≤ length s

pub events-got : (T R count : ℕ) (s : List ℕ) (at : ℕ) {es : List Event} {end : ℕ}
    → repeat count (event_at T R s) at ≡ got es end
    → EventsAt T R count s at es end
events-got T R count s at e =
    let p = repeat-got s count (event_at T R s) at (λ at v next e. ((omega (arith, (event-got T R s at e).ahead)), (event-got T R s at e).inside)) e in
    record {
      each = repeat-each (EventIn T R) count (event_at T R s) at (λ at v next e. (event-got T R s at e).event) e;
      count = repeat-length count (event_at T R s) at e;
      ahead = p.ahead;
      inside = p.inside;
    }

pub record GroupsAt (T : ℕ) (s : List ℕ) (at : ℕ) (gs : List (List ℕ)) (end : ℕ) : Type 0 where
  pub each : Each (Ascending T 0) gs
  pub count : length gs ≤ 1024
  pub ahead : at < end
  pub inside : end ≤ length s

pub groups-got : (T : ℕ) (s : List ℕ) (at : ℕ) {gs : List (List ℕ)} {end : ℕ} → groups_at 1024 T s at ≡ got gs end → GroupsAt T s at gs end
unfolding groups_at
groups-got T s at e =
    let a = and_then-got (limited 0 1024 s at) (λ count next. repeat count (listed T s) next) e in
    let l = limited-got 0 1024 s at a.first in
    let p =
    repeat-got s a.value (listed T s) a.next
    (λ at g next e. ((omega (arith, (listed-got T s at e).ahead)), (listed-got T s at e).inside))
    a.rest
    in
    record {
      each = repeat-each (Ascending T 0) a.value (listed T s) a.next (λ at g next e. (listed-got T s at e).ascending) a.rest;
      count = omega (arith, repeat-length a.value (listed T s) a.next a.rest);
      ahead = omega (arith, p.ahead);
      inside = p.inside l.inside;
    }

-- each event and each group in the tables; their rows ascend
pub event-in : {T R : ℕ} (d t : List ℕ) (n e : ℕ) → Each (EventIn T R) (events_of d t n) → e < n → EventIn T R (event_of d t e)
unfolding events_of
event-in d t zero e p h = elim (not-suc-le-zero h) [ ]
event-in d t (suc n) e p h =
    ⊎_elim (λ (k : e ≡ n). rw k (each_last (events_of d t n) p))
    (λ (l : e < n). event-in d t n e (each-front (events_of d t n) (event_of d t n ∷ []) p) l)
    (eq-or-lt_of_le (le_of_suc-le-suc h))

pub event-row : {T R : ℕ} (d t : List ℕ) (n e : ℕ) → Each (EventIn T R) (events_of d t n) → e < n → Ascending R 0 (row_at t e)
event-row d t n e p h = (event-in d t n e p h).ascending

pub group-ascends : {T : ℕ} (t : List ℕ) (n g : ℕ) → Each (Ascending T 0) (rows t n) → g < n → Ascending T 0 (row_at t g)
unfolding rows
group-ascends t zero g e h = elim (not-suc-le-zero h) [ ]
group-ascends t (suc n) g e h =
    ⊎_elim (λ (k : g ≡ n). rw k (each_last (rows t n) e)) (λ (l : g < n). group-ascends t n g (each-front (rows t n) (row_at t n ∷ []) e) l)
    (eq-or-lt_of_le (le_of_suc-le-suc h))

-- so each of them is in its table
pub row_in : (n g : ℕ) (t : List ℕ) → n ≤ 125 → Ascending n 0 (row_at t g) → g * 126 + 126 ≤ length t → RowIn t g
row_in n g t l a h = record { room = h; count = omega (arith, ascending-length n 0 (row_at t g) a (omega arith)) }

pub events-in : {T R : ℕ} (d t : List ℕ) (n : ℕ) → R ≤ 125 → n * 126 ≤ length t → Each (EventIn T R) (events_of d t n) → RowsIn t n
events-in {T} {R} d t n l h e = record { each = λ g k. row_in R g t l (event-row d t n g e k) (omega arith) }

pub groups-in : {T : ℕ} (t : List ℕ) (n : ℕ) → T ≤ 125 → n * 126 ≤ length t → Each (Ascending T 0) (rows t n) → RowsIn t n
groups-in {T} t n l h e = record { each = λ g k. row_in T g t l (group-ascends t n g e k) (omega arith) }
