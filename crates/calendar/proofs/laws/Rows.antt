-- The array of a calendar, filled day by day and period by period: laws.
use Prim.Native.Nat.{ℕ, suc, ◌+◌, ◌-◌, ◌≤◌, ◌<◌}
use mathlib.Core.Path.{◌≡◌, refl, sym, ap, ◌∙◌}
use mathlib.Core.List.{List, [], ◌∷◌, ◌++◌, append_assoc}
use Rattle.std.proofs.Common.{Option, Some, None}
use lib.ListN.{length, set, replicate, length-append, length-replicate}
use native.Mathlib.Omega.{arith}
use Rattle.std.proofs.Math.Seq.{set-append_seam}
use Rattle.scope.specs.Parsed.{got, refused, repeat}
use Rattle.scope.specs.Calendar.{Period as Span, limited_in, period_at, periods_at, day_at, period_count}
use Rattle.parsing.specs.Parsing.{list_of}
use Rattle.parsing.proofs.laws.Parsing.{before, before-cons, before-nil, before-end, repeat_more, repeat_refused, repeat-end}
use Rattle.calendar.specs.declared.days.Period.{Period}
use Rattle.calendar.specs.Rows.{numbered, day_row, blank_day, rows_after, calendar_rows}
use Rattle.calendar.proofs.laws.Counting.{Day}

-- one more in the place of the first blank
set-blank : {A : Type 0} (xs : List A) (m : ℕ) (b y : A) → set (xs ++ replicate (suc m) b) (length xs) y ≡ (xs ++ (y ∷ [])) ++ replicate m b
set-blank xs m b y = set-append_seam xs b (replicate m b) y ∙ sym (append_assoc xs (y ∷ []) (replicate m b))

pub length-numbered : (t : ℕ) (ps : List Span) → length (numbered t ps) ≡ length ps
unfolding numbered
length-numbered t [] = refl
length-numbered t (p ∷ ps) = ap suc (length-numbered (suc t) ps)

numbered-last : (t : ℕ) (ps : List Span) (p : Span)
    → numbered t (ps ++ (p ∷ [])) ≡ numbered t ps ++ (Some (record { start = p.start; end = p.end; time = t + length ps + 1 }) ∷ [])
unfolding numbered
numbered-last t [] p = let k : suc t ≡ t + 0 + 1 = omega arith in rw k
numbered-last t (q ∷ ps) p =
    let k : suc t + length ps + 1 ≡ t + suc (length ps) + 1 = omega arith in
    ap (λ ys. Some (record { start = q.start; end = q.end; time = suc t }) ∷ ys) (rw k at (numbered-last (suc t) ps p))

pub day_row-last : (t : ℕ) (ps : List Span) (a b : ℕ) → length ps < 24
    → set (day_row t ps) (length ps) (Some (record { start = a; end = b; time = t + length ps + 1 }))
    ≡ day_row t (ps ++ (record { start = a; end = b } ∷ []))
unfolding day_row
day_row-last t ps a b h =
    let k : 24 - length ps ≡ suc (24 - (length ps + 1)) = omega arith in
    let l : length (ps ++ (record { start = a; end = b } ∷ [])) ≡ length ps + 1 = length-append ps _ in
    rw (l, numbered-last t ps (record { start = a; end = b }), k)
    (rw (length-numbered t ps) at (set-blank (numbered t ps) (24 - (length ps + 1)) None (Some (record { start = a; end = b; time = t + length ps + 1 }))))

pub length-day_row : (t : ℕ) (ps : List Span) → length ps ≤ 24 → length (day_row t ps) ≡ 24
unfolding day_row
length-day_row t ps h = rw (length-append (numbered t ps) _, length-numbered t ps, length-replicate) (omega arith)

-- a day that is filled: the periods that were read stand in the row, and those still to be read follow them
pub record DayFilled (s : List ℕ) (at t count i : ℕ) (day : List (Option Period)) (last next : ℕ) : Type 0 where
  pub periods : List Span
  pub so_many : length periods ≡ i
  pub row : day ≡ day_row t periods
  pub rest : day_at s at ≡ before periods (periods_at (count - i) last s next)

module _ (s : List ℕ) (at t : ℕ) where
  pub day_start : {count start : ℕ} → limited_in at 0 24 s at ≡ got count start → DayFilled s at t count 0 blank_day 0 start
  unfolding day_at day_row numbered
  day_start {count} {start} e =
      let k : count - 0 ≡ count = omega arith in
      record { periods = []; so_many = refl; row = refl; rest = rw (e, k) (sym (before-nil (periods_at count 0 s start))) }

  pub day_none : {k v : ℕ} → limited_in at 0 24 s at ≡ refused k v → blank_day ≡ day_row t (list_of (day_at s at))
  unfolding day_at day_row numbered
  day_none e = rw e

  module _ {count i : ℕ} {day : List (Option Period)} {last next : ℕ} (f : DayFilled s at t count i day last next) where
    pub day_more : {a b after : ℕ} → i < count → count ≤ 24 → period_at last s next ≡ got (record { start = a; end = b }) after
        → DayFilled s at t count (i + 1) (set day i (Some (record { start = a; end = b; time = t + i + 1 }))) b after
    unfolding periods_at
    day_more {a} {b} {after} h few e =
        let p : Span = record { start = a; end = b } in
        let ps = f.periods in
        let k : count - i ≡ suc (count - (i + 1)) = omega arith in
        record {
          periods = ps ++ (p ∷ []);
          so_many = length-append ps (p ∷ []) ∙ ap (λ n. n + 1) f.so_many;
          row = rw (f.row, ← f.so_many) (day_row-last t ps a b (omega (arith, f.so_many)));
          rest = f.rest ∙ rw (k, e) (before-cons ps p (periods_at (count - (i + 1)) b s after));
        }

    pub day_stopped : {k v : ℕ} → i < count → period_at last s next ≡ refused k v → blank_day ≡ day_row t (list_of (day_at s at))
    unfolding periods_at before day_row numbered
    day_stopped h e = let k : count - i ≡ suc (count - (i + 1)) = omega arith in rw (f.rest, k, e)

    pub day_done : count ≤ i → day ≡ day_row t (list_of (day_at s at))
    unfolding periods_at
    day_done h =
        let k : count - i ≡ 0 = omega arith in
        let e : day_at s at ≡ got f.periods next = f.rest ∙ rw k (before-end f.periods next) in
        rw (e, f.row)

-- one day more
rows_after-last : (t : ℕ) (ds : List (List Span)) (d : List Span)
    → rows_after t (ds ++ (d ∷ [])) ≡ rows_after t ds ++ (day_row (t + period_count ds) d ∷ [])
unfolding rows_after period_count
rows_after-last t [] d = let k : t ≡ t + 0 = omega arith in rw (← k)
rows_after-last t (e ∷ ds) d =
    let k : t + length e + period_count ds ≡ t + (length e + period_count ds) = omega arith in
    ap (λ rs. day_row t e ∷ rs) (rw k at (rows_after-last (t + length e) ds d))

pub length-rows_after : (t : ℕ) (ds : List (List Span)) → length (rows_after t ds) ≡ length ds
unfolding rows_after
length-rows_after t [] = refl
length-rows_after t (d ∷ ds) = ap suc (length-rows_after (t + length d) ds)

pub count-last : (ds : List (List Span)) (d : List Span) → period_count (ds ++ (d ∷ [])) ≡ period_count ds + length d
unfolding period_count
count-last [] d = omega arith
count-last (e ∷ ds) d = omega (arith, count-last ds d)

calendar_rows-last : (ds : List (List Span)) (d : List Span) → length ds < 7
    → set (calendar_rows ds) (length ds) (day_row (period_count ds) d) ≡ calendar_rows (ds ++ (d ∷ []))
unfolding calendar_rows
calendar_rows-last ds d h =
    let k : 7 - length ds ≡ suc (7 - (length ds + 1)) = omega arith in
    let l : length (ds ++ (d ∷ [])) ≡ length ds + 1 = length-append ds _ in
    let z : 0 + period_count ds ≡ period_count ds = omega arith in
    rw (l, rows_after-last 0 ds d, k, z)
    (rw (length-rows_after 0 ds, z) at (set-blank (rows_after 0 ds) (7 - (length ds + 1)) blank_day (day_row (0 + period_count ds) d)))

-- a calendar that is filled
pub record DaysFilled (s : List ℕ) (at d : ℕ) (days : List (List (Option Period))) (time next : ℕ) : Type 0 where
  pub read : List (List Span)
  pub so_many : length read ≡ d
  pub rows : days ≡ calendar_rows read
  pub total : time ≡ period_count read
  pub rest : repeat 7 (day_at s) at ≡ before read (repeat (7 - d) (day_at s) next)

module _ (s : List ℕ) (at : ℕ) where
  pub days_start : DaysFilled s at 0 (replicate 7 blank_day) 0 at
  unfolding calendar_rows rows_after period_count
  days_start = record { read = []; so_many = refl; rows = refl; total = refl; rest = sym (before-nil (repeat 7 (day_at s) at)) }

  module _ {d : ℕ} {days : List (List (Option Period))} {time next : ℕ} (f : DaysFilled s at d days time next) where
    pub days_more : {n after : ℕ} → d < 7 → (y : Day s next n after)
        → DaysFilled s at (d + 1) (set days d (day_row time (list_of (day_at s next)))) (time + n) after
    days_more {n} {after} h y =
        let ds = f.read in
        let p = y.periods in
        let e : list_of (day_at s next) ≡ p = ap list_of y.read in
        record {
          read = ds ++ (p ∷ []);
          so_many = length-append ds (p ∷ []) ∙ ap (λ n. n + 1) f.so_many;
          rows = rw (e, f.rows, f.total, ← f.so_many) (calendar_rows-last ds p (omega (arith, f.so_many)));
          total = rw (f.total, ← y.count) (sym (count-last ds p));
          rest = f.rest ∙ repeat_more ds d 7 (day_at s) next h y.read;
        }

    pub days_stopped : {k v : ℕ} → d < 7 → day_at s next ≡ refused k v → replicate 7 blank_day ≡ calendar_rows (list_of (repeat 7 (day_at s) at))
    unfolding calendar_rows rows_after
    days_stopped h e = rw (f.rest ∙ repeat_refused f.read d 7 (day_at s) next h e)

    pub days_done : 7 ≤ d → days ≡ calendar_rows (list_of (repeat 7 (day_at s) at))
    days_done h = rw (f.rest ∙ repeat-end f.read d 7 (day_at s) next h, f.rows)
