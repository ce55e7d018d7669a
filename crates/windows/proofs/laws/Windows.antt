-- The windows of a calendar, read one after another into rows: laws.
use Prim.Native.Nat.{ℕ, zero, suc, ◌+◌, ◌*◌, ◌-◌, ◌≤◌, ◌<◌}
use mathlib.Core.Path.{◌≡◌, refl, sym, ap, ◌∙◌}
use mathlib.Core.List.{List, [], ◌∷◌, ◌++◌, append-nil}
use mathlib.Core.Option.{none, some}
use lib.ListN.{length, get_or, take, replicate}
use native.Mathlib.Omega.{arith}
use Rattle.scope.specs.Parsed.{Parsed, got, refused, and_then, repeat}
use Rattle.scope.specs.Calendar.{Period as Span, limited_in, period_count, window_of, window_at, windows_at}
use Rattle.scope.specs.Instance.{Times, groups_at, all_groups_at}
use Rattle.parsing.proofs.laws.Each.{each_at}
use Rattle.parsing.proofs.laws.Parsing.{and_then-got, before}
use Rattle.parsing.proofs.laws.Calendar.{CalendarRead, calendar-got, limited_in-got}
use Rattle.tables.specs.Rows.{row_of, rows}
use Rattle.table_lists.proofs.laws.Writing.{put_row, rows_more}
use Rattle.tables.proofs.laws.Laws.{length_rows}
use Rattle.tables.proofs.laws.Reading.{groups-got}
use Rattle.std.proofs.Common.{Option}
use Rattle.calendar.specs.declared.days.Period.{Period}
use Rattle.calendar.specs.Rows.{day_row, blank_day, rows_after, calendar_rows}
use Rattle.calendar.proofs.laws.Rows.{length-day_row}
use Rattle.windows.specs.Window.{window_fields, in_window}
use Rattle.windows.specs.Times.{days_in, Calendared}
use Rattle.windows.proofs.laws.Row.{row-shown}

-- one reading after two
and_then-twice : {A B C : Type 0} (p : Parsed A) (f : A → ℕ → Parsed B) (g : B → ℕ → Parsed C)
    → and_then (and_then p f) g ≡ and_then p (λ a n. and_then (f a n) g)
and_then-twice (got a n) f g = refl
and_then-twice (refused k v) f g = refl

and_then-same : {A B : Type 0} (p : Parsed A) (f g : A → ℕ → Parsed B) → ((a : A) (n : ℕ) → f a n ≡ g a n) → and_then p f ≡ and_then p g
and_then-same (got a n) f g h = h a n
and_then-same (refused k v) f g h = refl

-- a window, by its numbers
module _ (days : List (List Span)) (s : List ℕ) (at : ℕ) where
  window_by_fields : window_at days s at ≡ and_then (window_fields s at) (λ w end. got (window_of days w.0 w.1 w.2) end)
  unfolding window_at window_fields
  window_by_fields =
      sym
      (and_then-twice (limited_in at 1 7 s at) _ _
      ∙ and_then-same (limited_in at 1 7 s at) _ _
      (λ d next.
      and_then-twice (limited_in at 0 1440 s next) _ _
      ∙ and_then-same (limited_in at 0 1440 s next) _ _ (λ from more. and_then-twice (limited_in at 0 1440 s more) _ _)))

  pub window_value : {d a b n : ℕ} → got (d, a, b) n ≡ window_fields s at → window_at days s at ≡ got (window_of days d a b) n
  window_value e = window_by_fields ∙ rw (← e)

  pub window_refused : {k v : ℕ} → refused k v ≡ window_fields s at → window_at days s at ≡ refused k v
  window_refused e = window_by_fields ∙ rw (← e)

-- the day of a window that was read is one of seven
pub record DayIn (d : ℕ) : Type 0 where
  pub low : 1 ≤ d
  pub high : d ≤ 7

pub window-day : (s : List ℕ) (at : ℕ) {d a b n : ℕ} → got (d, a, b) n ≡ window_fields s at → DayIn d
unfolding window_fields
window-day s at {d} {a} {b} {n} e =
    let k = and_then-got (limited_in at 1 7 s at) (λ d next. and_then (limited_in at 0 1440 s next) (λ from more. and_then (limited_in at 0 1440 s more) (λ to end. got (d, from, to) end))) (sym e) in
    let l = and_then-got (limited_in at 0 1440 s k.next) (λ from more. and_then (limited_in at 0 1440 s more) (λ to end. got (k.value, from, to) end)) k.rest in
    let m = and_then-got (limited_in at 0 1440 s l.next) (λ to end. got (k.value, l.value, to) end) l.rest in
    let w = limited_in-got at 1 7 s at {v = k.value} {next = k.next} k.first in
    let same : ◌≡◌ {A = ℕ × ℕ × ℕ} (k.value, l.value, m.value) (d, a, b) = cc m.rest in
    let z : k.value ≡ d = ap (λ (w : ℕ × ℕ × ℕ). w.0) same in
    record { low = omega (arith, w.low); high = omega (arith, w.high) }

-- the row of a day in the array of a calendar
row-at : (t : ℕ) (ds : List (List Span)) (k : ℕ) (z : List (Option Period)) (more : List (List (Option Period))) → k < length ds
    → get_or (rows_after t ds ++ more) k z ≡ day_row (t + period_count (take k ds)) (get_or ds k [])
unfolding rows_after period_count
row-at t [] k z more h = let f : ⊥ = omega arith in absurd f
row-at t (d ∷ ds) zero z more h = let k : t + 0 ≡ t = omega arith in rw k
row-at t (d ∷ ds) (suc k) z more h =
    let e : t + length d + period_count (take k ds) ≡ t + (length d + period_count (take k ds)) = omega arith in
    rw e at (row-at (t + length d) ds k z more (omega arith))

module _ (s : List ℕ) (c : Calendared s) (array : List (List (Option Period))) (e : array ≡ calendar_rows (days_in s)) (d : ℕ) (i : DayIn d) (z : List (Option Period)) where
  known : CalendarRead s 1 (days_in s) c.end
  known = calendar-got s 1 c.read

  the_row : get_or array (d - 1) z ≡ day_row (period_count (take (d - 1) (days_in s))) (get_or (days_in s) (d - 1) [])
  unfolding calendar_rows
  the_row =
      let k : 0 + period_count (take (d - 1) (days_in s)) ≡ period_count (take (d - 1) (days_in s)) = omega arith in
      rw e (rw k at (row-at 0 (days_in s) (d - 1) z (replicate (7 - length (days_in s)) blank_day) (omega (arith, i.low, i.high, known.seven))))

  pub day_long : length (get_or array (d - 1) z) ≡ 24
  day_long =
      rw the_row
      (length-day_row _ (get_or (days_in s) (d - 1) [])
      (each_at (d - 1) [] known.each (omega (arith, i.low, i.high, known.seven))))

  pub day_shows : (from to : ℕ) → in_window from to (get_or array (d - 1) z) ≡ window_of (days_in s) d from to
  unfolding window_of
  day_shows from to = rw the_row (row-shown from to _ (get_or (days_in s) (d - 1) []))

-- the windows after some rows, from the first on
pub windows-start : (xs : List (List ℕ)) (days : List (List Span)) (s : List ℕ) (at : ℕ) {count start : ℕ}
    → limited_in at 0 1024 s at ≡ got count start
    → before xs (windows_at days s at) ≡ before xs (repeat (count - 0) (window_at days s) start)
unfolding windows_at
windows-start xs days s at {count} e = let k : count - 0 ≡ count = omega arith in rw (e, k)

pub windows-none : (xs : List (List ℕ)) (days : List (List Span)) (s : List ℕ) (at : ℕ) {k v : ℕ}
    → limited_in at 0 1024 s at ≡ refused k v
    → before xs (windows_at days s at) ≡ refused k v
unfolding windows_at before
windows-none xs days s at e = rw e

-- one window more, in the row after those before it
pub window_more : (table row : List ℕ) (first w : ℕ) (rest : Parsed (List (List ℕ))) → (first + w) * 126 + 126 ≤ length table → length row ≡ 126
    → before (rows table (first + w) ++ (row_of row ∷ [])) rest ≡ before (rows (put_row table (first + w) row) (first + (w + 1))) rest
window_more table row first w rest h k =
    let e : first + (w + 1) ≡ first + w + 1 = omega arith in rw (e, rows_more table row (first + w) h k)

windows-behind : (gs : List (List ℕ)) (p : Parsed (List (List ℕ))) → and_then p (λ ws end. got (gs ++ ws) end) ≡ before gs p
unfolding before
windows-behind gs (got ws end) = refl
windows-behind gs (refused k v) = refl

-- the rows of the groups, where a call read them
pub few-groups : (T : ℕ) (s : List ℕ) (at : ℕ) (table : List ℕ) {n next : ℕ} → groups_at 1024 T s at ≡ got (rows table n) next → n ≤ 1024
few-groups T s at table {n} e = omega (arith, (groups-got T s at e).count, length_rows table n)

-- the groups of a file, by whether it has a calendar
module _ (t : Times) (s : List ℕ) (at : ℕ) where
  pub groups_refused : {k v : ℕ} → groups_at 1024 t.count s at ≡ refused k v → all_groups_at 1024 t s at ≡ refused k v
  unfolding all_groups_at
  groups_refused e = rw e

  module _ {gs : List (List ℕ)} {next : ℕ} (e : groups_at 1024 t.count s at ≡ got gs next) where
    pub groups_plain : t.days ≡ none → all_groups_at 1024 t s at ≡ got gs next
    unfolding all_groups_at
    groups_plain d = rw (e, d) (ap (λ xs. got xs next) (append-nil gs))

    pub groups_dated : {days : List (List Span)} → t.days ≡ some days → all_groups_at 1024 t s at ≡ before gs (windows_at days s next)
    unfolding all_groups_at
    groups_dated {days} d = rw (e, d) (windows-behind gs (windows_at days s next))
