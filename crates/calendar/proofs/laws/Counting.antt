-- Counting the periods of a day and of a calendar, turn by turn: laws.
use Prim.Native.Nat.{ℕ, suc, ◌+◌, ◌-◌, ◌≤◌, ◌<◌}
use mathlib.Core.Path.{◌≡◌, refl, sym, ap}
use mathlib.Core.List.{List}
use mathlib.Core.Option.{some}
use lib.ListN.{length}
use native.Mathlib.Omega.{arith}
use borrow.Author.Tests.{le-leb, lt-leb, ne_eqb}
use Rattle.scope.specs.Parsed.{Parsed, got, refused, and_then, cons, repeat}
use Rattle.scope.specs.Number.{limited}
use Rattle.scope.specs.Instance.{times_at}
use Rattle.scope.specs.Calendar.{Period, limited_in, period_at, periods_at, day_at, period_count, calendar_at}
use Rattle.parsing.proofs.laws.Parsing.{refused-got}
use Rattle.calendar.specs.Answers.{counted_on, counted, totalled_on, totalled, times_counted}

-- the periods of a day, counted from the first on
pub day-counted : (s : List ℕ) (at : ℕ) {count next : ℕ} → limited_in at 0 24 s at ≡ got count next
    → counted (day_at s at) ≡ counted_on 0 (periods_at (count - 0) 0 s next)
unfolding day_at
day-counted s at {count} e = let k : count - 0 ≡ count = omega arith in rw (e, k)

pub day-uncounted : (s : List ℕ) (at : ℕ) {k v : ℕ} → limited_in at 0 24 s at ≡ refused k v → counted (day_at s at) ≡ refused k v
unfolding day_at counted_on
day-uncounted s at e = rw e

counted-cons : (i : ℕ) (p : Period) (q : Parsed (List Period)) → counted_on i (cons p q) ≡ counted_on (i + 1) q
unfolding counted_on
counted-cons i p (got ps end) = let k : i + suc (length ps) ≡ i + 1 + length ps = omega arith in rw k
counted-cons i p (refused k v) = refl

module _ (i count before : ℕ) (s : List ℕ) (at : ℕ) (h : i < count) where
  pub counted_more : {p : Period} {next : ℕ} → period_at before s at ≡ got p next
      → counted_on i (periods_at (count - i) before s at) ≡ counted_on (i + 1) (periods_at (count - (i + 1)) p.end s next)
  unfolding periods_at
  counted_more {p} {next} e =
      let k : count - i ≡ suc (count - (i + 1)) = omega arith in
      rw (k, e) (counted-cons i p (periods_at (count - (i + 1)) p.end s next))

  pub counted_refused : {k v : ℕ} → period_at before s at ≡ refused k v → counted_on i (periods_at (count - i) before s at) ≡ refused k v
  unfolding periods_at counted_on
  counted_refused e = let k : count - i ≡ suc (count - (i + 1)) = omega arith in rw (k, e)

pub counted_end : (i count before : ℕ) (s : List ℕ) (at : ℕ) → i ≤ count → count ≤ i → counted_on i (periods_at (count - i) before s at) ≡ got count at
unfolding periods_at counted_on
counted_end i count before s at l h =
    let k : count - i ≡ 0 = omega arith in let m : i + 0 ≡ count = omega arith in rw k (ap (λ n. got n at) m)

-- a day that was counted was read
pub record Day (s : List ℕ) (at n end : ℕ) : Type 0 where
  pub periods : List Period
  pub read : day_at s at ≡ got periods end
  pub count : length periods ≡ n

counted-got : (p : Parsed (List Period)) {n end : ℕ} → counted p ≡ got n end → (ps : List Period) × (p ≡ got ps end) × (length ps ≡ n)
unfolding counted_on
counted-got (got ps next) {n} {end} e = let z : 0 + length ps ≡ n = cc in let a : length ps ≡ n = omega arith in let b : next ≡ end = cc in (ps, rw b, a)
counted-got (refused k v) {n} {end} e = refused-got ((ps : List Period) × (refused k v ≡ got ps end) × (length ps ≡ n)) e

counted-stopped : (p : Parsed (List Period)) {k v : ℕ} → counted p ≡ refused k v → p ≡ refused k v
unfolding counted_on
counted-stopped (got ps next) {k} {v} e = let z : ◌≡◌ {A = ℕ} 0 1 = cc in let f : ⊥ = omega arith in absurd f
counted-stopped (refused k v) e = cc

module _ (s : List ℕ) (at : ℕ) where
  pub day_value : {n end : ℕ} → got n end ≡ counted (day_at s at) → Day s at n end
  day_value e = let r = counted-got (day_at s at) (sym e) in record { periods = r.0; read = r.1; count = r.2 }

  pub day_refused : {k v : ℕ} → refused k v ≡ counted (day_at s at) → day_at s at ≡ refused k v
  day_refused e = counted-stopped (day_at s at) (sym e)

-- the days of a calendar, their periods counted
totalled-cons : (t : ℕ) (d : List Period) (q : Parsed (List (List Period))) → totalled_on t (cons d q) ≡ totalled_on (t + length d) q
unfolding totalled_on period_count
totalled-cons t d (got ds end) = let k : t + (length d + period_count ds) ≡ t + length d + period_count ds = omega arith in rw k
totalled-cons t d (refused k v) = refl

module _ (t d : ℕ) (s : List ℕ) (at : ℕ) (h : d < 7) where
  pub totalled_more : {n next : ℕ} → Day s at n next
      → totalled_on t (repeat (7 - d) (day_at s) at) ≡ totalled_on (t + n) (repeat (7 - (d + 1)) (day_at s) next)
  unfolding repeat
  totalled_more {n} {next} y =
      let k : 7 - d ≡ suc (7 - (d + 1)) = omega arith in
      rw (k, y.read, ← y.count) (totalled-cons t y.periods (repeat (7 - (d + 1)) (day_at s) next))

  pub totalled_refused : {k v : ℕ} → day_at s at ≡ refused k v → totalled_on t (repeat (7 - d) (day_at s) at) ≡ refused k v
  unfolding repeat totalled_on
  totalled_refused e = let k : 7 - d ≡ suc (7 - (d + 1)) = omega arith in rw (k, e)

pub totalled-end : (t d : ℕ) (s : List ℕ) (at : ℕ) → 7 ≤ d → totalled_on t (repeat (7 - d) (day_at s) at) ≡ got t at
unfolding repeat totalled_on period_count
totalled-end t d s at h =
    let k : 7 - d ≡ 0 = omega arith in let m : t + 0 ≡ t = omega arith in rw k (ap (λ n. got n at) m)

-- the test after the last day, where the seven days have so many periods
totalled-got : (p : Parsed (List (List Period))) {n end : ℕ} → totalled p ≡ got n end
    → (ds : List (List Period)) × (p ≡ got ds end) × (period_count ds ≡ n)
unfolding totalled_on
totalled-got (got ds next) {n} {end} e = let z : 0 + period_count ds ≡ n = cc in let a : period_count ds ≡ n = omega arith in let b : next ≡ end = cc in (ds, rw b, a)
totalled-got (refused k v) {n} {end} e = refused-got ((ds : List (List Period)) × (refused k v ≡ got ds end) × (period_count ds ≡ n)) e

totalled-stopped : (p : Parsed (List (List Period))) {k v : ℕ} → totalled p ≡ refused k v → p ≡ refused k v
unfolding totalled_on
totalled-stopped (got ps next) {k} {v} e = let z : ◌≡◌ {A = ℕ} 0 1 = cc in let f : ⊥ = omega arith in absurd f
totalled-stopped (refused k v) e = cc

module _ (s : List ℕ) (at : ℕ) where
  pub calendar_stopped : {k v : ℕ} → totalled (repeat 7 (day_at s) at) ≡ refused k v → totalled (calendar_at s at) ≡ refused k v
  unfolding calendar_at totalled_on
  calendar_stopped e = rw (totalled-stopped (repeat 7 (day_at s) at) e)

  module _ {n end : ℕ} (e : totalled (repeat 7 (day_at s) at) ≡ got n end) where
    pub calendar_none : n < 1 → totalled (calendar_at s at) ≡ refused 22 0
    unfolding calendar_at totalled_on
    calendar_none h =
        let r = totalled-got (repeat 7 (day_at s) at) e in rw (r.1, r.2, lt-leb 1 n h)

    pub calendar_many : 1 ≤ n → 125 < n → totalled (calendar_at s at) ≡ refused 22 0
    unfolding calendar_at totalled_on
    calendar_many l h =
        let r = totalled-got (repeat 7 (day_at s) at) e in rw (r.1, r.2, le-leb 1 n l, lt-leb n 125 h)

    pub calendar_right : 1 ≤ n → n ≤ 125 → totalled (calendar_at s at) ≡ got n end
    unfolding calendar_at totalled_on
    calendar_right l h =
        let r = totalled-got (repeat 7 (day_at s) at) e in
        let k : 0 + n ≡ n = omega arith in
        rw (r.1, r.2, le-leb 1 n l, le-leb n 125 h, r.2) (ap (λ m. got m end) k)

-- the times of a file, by the number in place of T
module _ (s : List ℕ) where
  pub times_stopped : {k v : ℕ} → limited 0 125 s 0 ≡ refused k v → times_counted (times_at s) ≡ refused k v
  unfolding times_at times_counted
  times_stopped e = rw e

  pub times-given : {T next : ℕ} → limited 0 125 s 0 ≡ got T next → (T ≡ 0 → ⊥) → times_counted (times_at s) ≡ got T next
  unfolding times_at times_counted
  times-given {T} e h = rw (e, ne_eqb T 0 h)

  dated_times : (p : Parsed (List (List Period)))
      → times_counted (and_then p (λ days end. got (record { count = period_count days; days = some days }) end)) ≡ totalled p
  unfolding times_counted totalled_on
  dated_times (got days end) = let k : period_count days ≡ 0 + period_count days = omega arith in ap (λ m. got m end) k
  dated_times (refused k v) = refl

  pub times_dated : {T next : ℕ} → limited 0 125 s 0 ≡ got T next → T ≡ 0 → times_counted (times_at s) ≡ totalled (calendar_at s next)
  unfolding times_at
  times_dated {T} {next} e h = rw (e, h) (dated_times (calendar_at s next))
