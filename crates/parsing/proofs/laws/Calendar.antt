-- What is known of a calendar and of windows that were read: their sizes, where they end, and the times that a window shows: laws.
use Prim.Native.Nat.{ℕ, zero, suc, ◌+◌, ◌-◌, ◌≤◌, ◌<◌}
use mathlib.Core.Path.{◌≡◌, refl, sym, ap, subst}
use mathlib.Core.List.{List, [], ◌∷◌}
use mathlib.Core.Bool.{Bool, true, false, cond, ◌&&◌}
use mathlib.Core.Option.{Option, none, some}
use lib.Dec.{ltb, leb, eqb}
use lib.ListN.{length, get_or, take}
use native.Mathlib.Omega.{arith}
use borrow.Author.Tests.{ltb-true, leb-true, eqb-false}
use Rattle.scope.specs.Parsed.{Parsed, got, and_then, unless, cons, repeat}
use Rattle.scope.specs.Number.{number, limited}
use Rattle.scope.specs.Calendar.{Period, limited_in, period_at, periods_at, day_at, period_count, calendar_at, shown, window_of, window_at, windows_at, windows_after}
use Rattle.scope.specs.Instance.{Times, times_at}
use Rattle.parsing.proofs.laws.Parsing.{and_then-got, unless-got, cons-got, got-value, repeat-length}
use Rattle.parsing.proofs.laws.Numbers.{LimitedAt, number-got, limited-got, repeat-got}
use Rattle.parsing.proofs.laws.Each.{repeat-each}
use Rattle.parsing.specs.Each.{Each, each_none}
use Rattle.parsing.specs.Numbers.{Ascending, none as no_more, more}

-- a number within its limits
pub limited_in-got : (place lo hi : ℕ) (s : List ℕ) (at : ℕ) {v next : ℕ} → limited_in place lo hi s at ≡ got v next → LimitedAt lo hi s at v next
unfolding limited_in
limited_in-got place lo hi s at {v} {next} e =
    let p = and_then-got (number s at) (λ v next. unless (leb lo v) 22 place (unless (leb v hi) 22 place (got v next))) e in
    let q = unless-got (leb lo p.value) 22 place (unless (leb p.value hi) 22 place (got p.value p.next)) p.rest in
    let r = unless-got (leb p.value hi) 22 place (got p.value p.next) q.rest in
    let same : p.value ≡ v = cc r.rest in
    let end : p.next ≡ next = cc r.rest in
    let n = number-got s at p.first in
    let low = leb-true lo p.value q.test in
    let high = leb-true p.value hi r.test in
    record { low = omega arith; high = omega arith; ahead = omega arith; inside = omega arith }

-- a period: it lies within the day, after the one before it
pub record PeriodRead (before : ℕ) (s : List ℕ) (at : ℕ) (p : Period) (next : ℕ) : Type 0 where
  pub after : before ≤ p.start
  pub lasts : p.start < p.end
  pub by_midnight : p.end ≤ 1440
  pub ahead : at < next
  pub inside : next ≤ length s

pub period-got : (before : ℕ) (s : List ℕ) (at : ℕ) {p : Period} {next : ℕ} → period_at before s at ≡ got p next → PeriodRead before s at p next
unfolding period_at
period-got before s at {p} {next} e =
    let a = and_then-got (limited_in at 0 1440 s at) (λ a next. and_then (limited_in at 0 1440 s next) (λ b end. unless (ltb a b) 22 at (unless (leb before a) 22 at (got (record { start = a; end = b }) end)))) e in
    let b = and_then-got (limited_in at 0 1440 s a.next) (λ b end. unless (ltb a.value b) 22 at (unless (leb before a.value) 22 at (got (record { start = a.value; end = b }) end))) a.rest in
    let q = unless-got (ltb a.value b.value) 22 at (unless (leb before a.value) 22 at (got (record { start = a.value; end = b.value }) b.next)) b.rest in
    let r = unless-got (leb before a.value) 22 at (got (record { start = a.value; end = b.value }) b.next) q.rest in
    let same : ◌≡◌ {A = Period} (record { start = a.value; end = b.value }) p = cc r.rest in
    let end : b.next ≡ next = cc r.rest in
    let x = limited_in-got at 0 1440 s at a.first in
    let y = limited_in-got at 0 1440 s a.next b.first in
    let first : a.value ≡ p.start = ap (λ (p : Period). p.start) same in
    let last : b.value ≡ p.end = ap (λ (p : Period). p.end) same in
    record {
      after = omega (arith, leb-true before a.value r.test);
      lasts = omega (arith, ltb-true a.value b.value q.test);
      by_midnight = omega (arith, y.high);
      ahead = omega (arith, x.ahead, y.ahead);
      inside = omega (arith, y.inside);
    }

-- some periods of a day
pub record PeriodsRead (n : ℕ) (s : List ℕ) (at : ℕ) (ps : List Period) (end : ℕ) : Type 0 where
  pub count : length ps ≡ n
  pub ahead : at ≤ end
  pub inside : at ≤ length s → end ≤ length s

pub periods-got : (n before : ℕ) (s : List ℕ) (at : ℕ) {ps : List Period} {end : ℕ} → periods_at n before s at ≡ got ps end → PeriodsRead n s at ps end
unfolding periods_at
periods-got zero before s at {ps} {end} e =
    let h : ps ≡ [] = cc in
    let i : at ≡ end = cc in
    record { count = rw h refl; ahead = omega arith; inside = λ l. omega arith }
periods-got (suc n) before s at {ps} {end} e =
    let p = and_then-got (period_at before s at) (λ p next. cons p (periods_at n p.end s next)) e in
    let q = cons-got p.value (periods_at n p.value.end s p.next) p.rest in
    let r = period-got before s at p.first in
    let t = periods-got n p.value.end s p.next q.rest in
    record { count = rw q.whole (ap suc t.count); ahead = omega (arith, r.ahead, t.ahead); inside = λ l. t.inside r.inside }

pub record DayRead (s : List ℕ) (at : ℕ) (ps : List Period) (end : ℕ) : Type 0 where
  pub count : length ps ≤ 24
  pub ahead : at < end
  pub inside : end ≤ length s

pub day-got : (s : List ℕ) (at : ℕ) {ps : List Period} {end : ℕ} → day_at s at ≡ got ps end → DayRead s at ps end
unfolding day_at
day-got s at {ps} {end} e =
    let a = and_then-got (limited_in at 0 24 s at) (λ count next. periods_at count 0 s next) e in
    let l = limited_in-got at 0 24 s at a.first in
    let p = periods-got a.value 0 s a.next a.rest in
    record { count = omega (arith, p.count, l.high); ahead = omega (arith, l.ahead, p.ahead); inside = p.inside l.inside }

-- the whole calendar: seven days of up to 24 periods, 1 to 125 in all
pub record CalendarRead (s : List ℕ) (at : ℕ) (days : List (List Period)) (end : ℕ) : Type 0 where
  pub seven : length days ≡ 7
  pub each : Each (λ ps. length ps ≤ 24) days
  pub some : 1 ≤ period_count days
  pub few : period_count days ≤ 125
  pub repeated : repeat 7 (day_at s) at ≡ got days end
  pub ahead : at ≤ end
  pub inside : at ≤ length s → end ≤ length s

pub calendar-got : (s : List ℕ) (at : ℕ) {days : List (List Period)} {end : ℕ} → calendar_at s at ≡ got days end → CalendarRead s at days end
unfolding calendar_at
calendar-got s at {days} {end} e =
    let a = and_then-got (repeat 7 (day_at s) at) (λ days next. unless (leb 1 (period_count days)) 22 0 (unless (leb (period_count days) 125) 22 0 (got days next))) e in
    let q = unless-got (leb 1 (period_count a.value)) 22 0 (unless (leb (period_count a.value) 125) 22 0 (got a.value a.next)) a.rest in
    let r = unless-got (leb (period_count a.value) 125) 22 0 (got a.value a.next) q.rest in
    let same : a.value ≡ days = cc r.rest in
    let here : a.next ≡ end = cc r.rest in
    let first : repeat 7 (day_at s) at ≡ got days end = rw (same, here) at a.first in
    let p = repeat-got s 7 (day_at s) at (λ at ps next e. ((omega (arith, (day-got s at e).ahead)), (day-got s at e).inside)) first in
    record {
      seven = repeat-length 7 (day_at s) at first;
      each = repeat-each (λ ps. length ps ≤ 24) 7 (day_at s) at (λ at ps next e. (day-got s at e).count) first;
      some = rw same at (leb-true 1 (period_count a.value) q.test);
      few = rw same at (leb-true (period_count a.value) 125 r.test);
      repeated = first;
      ahead = p.ahead;
      inside = p.inside;
    }

-- a list that ascends above a number ascends above a lower one
above-less : (a b n : ℕ) (xs : List ℕ) → a ≤ b → Ascending n b xs → Ascending n a xs
above-less a b n [] h no_more = no_more
above-less a b n (x ∷ xs) h (more l m r) = let k : a < x = omega arith in more k m r

-- the times that a window shows ascend, above those before the day and up to those of the day
shown-step : (b : Bool) (t n : ℕ) (xs : List ℕ) → suc t ≤ n → Ascending n (suc t) xs → Ascending n t (cond b (suc t ∷ xs) xs)
shown-step true t n xs l h = let k : t < suc t = omega arith in more k l h
shown-step false t n xs l h = above-less t (suc t) n xs (omega arith) h

pub shown-ascending : (from to t n : ℕ) (ps : List Period) → t + length ps ≤ n → Ascending n t (shown from to t ps)
unfolding shown
shown-ascending from to t n [] h = no_more
shown-ascending from to t n (p ∷ ps) h =
    shown-step (leb from p.start && leb p.end to) t n (shown from to (suc t) ps) (omega arith)
    (shown-ascending from to (suc t) n ps (omega arith))

-- the periods of the days before one, and its own, are no more than all
pub periods-before : (days : List (List Period)) (k : ℕ) → period_count (take k days) + length (get_or days k []) ≤ period_count days
unfolding period_count
periods-before [] zero = omega arith
periods-before [] (suc k) = omega arith
periods-before (d ∷ ds) zero = omega arith
periods-before (d ∷ ds) (suc k) = omega (arith, periods-before ds k)

pub window-ascending : (days : List (List Period)) (d from to : ℕ) → Ascending (period_count days) 0 (window_of days d from to)
unfolding window_of
window-ascending days d from to =
    let t = period_count (take (d - 1) days) in
    above-less 0 t (period_count days) _ (omega arith)
    (shown-ascending from to t (period_count days) (get_or days (d - 1) []) (periods-before days (d - 1)))

-- a window that was read
pub record WindowRead (days : List (List Period)) (s : List ℕ) (at : ℕ) (g : List ℕ) (end : ℕ) : Type 0 where
  pub ascending : Ascending (period_count days) 0 g
  pub ahead : at < end
  pub inside : end ≤ length s

pub window-got : (days : List (List Period)) (s : List ℕ) (at : ℕ) {g : List ℕ} {end : ℕ} → window_at days s at ≡ got g end → WindowRead days s at g end
unfolding window_at
window-got days s at {g} {end} e =
    let a = and_then-got (limited_in at 1 7 s at) (λ d next. and_then (limited_in at 0 1440 s next) (λ from more. and_then (limited_in at 0 1440 s more) (λ to end. got (window_of days d from to) end))) e in
    let b = and_then-got (limited_in at 0 1440 s a.next) (λ from more. and_then (limited_in at 0 1440 s more) (λ to end. got (window_of days a.value from to) end)) a.rest in
    let c = and_then-got (limited_in at 0 1440 s b.next) (λ to end. got (window_of days a.value b.value to) end) b.rest in
    let same : window_of days a.value b.value c.value ≡ g = got-value {a = window_of days a.value b.value c.value} {m = c.next} c.rest in
    let here : c.next ≡ end = cc c.rest in
    let x = limited_in-got at 1 7 s at a.first in
    let y = limited_in-got at 0 1440 s a.next b.first in
    let z = limited_in-got at 0 1440 s b.next {v = c.value} {next = c.next} c.first in
    record {
      ascending = rw same at (window-ascending days a.value b.value c.value);
      ahead = omega (arith, x.ahead, y.ahead, z.ahead);
      inside = omega (arith, z.inside);
    }

-- the windows of a calendar, or none
pub record WindowsRead (n : ℕ) (s : List ℕ) (at : ℕ) (ws : List (List ℕ)) (end : ℕ) : Type 0 where
  pub each : Each (Ascending n 0) ws
  pub count : length ws ≤ 1024
  pub ahead : at ≤ end
  pub inside : at ≤ length s → end ≤ length s

pub windows-got : (days : List (List Period)) (s : List ℕ) (at : ℕ) {ws : List (List ℕ)} {end : ℕ} → windows_at days s at ≡ got ws end
    → WindowsRead (period_count days) s at ws end
unfolding windows_at
windows-got days s at e =
    let a = and_then-got (limited_in at 0 1024 s at) (λ count next. repeat count (window_at days s) next) e in
    let l = limited_in-got at 0 1024 s at a.first in
    let p = repeat-got s a.value (window_at days s) a.next (λ at g next e. ((omega (arith, (window-got days s at e).ahead)), (window-got days s at e).inside)) a.rest in
    record {
      each = repeat-each (Ascending (period_count days) 0) a.value (window_at days s) a.next (λ at g next e. (window-got days s at e).ascending) a.rest;
      count = omega (arith, repeat-length a.value (window_at days s) a.next a.rest, l.high);
      ahead = omega (arith, l.ahead, p.ahead);
      inside = λ h. p.inside l.inside;
    }

-- the times of a file: 1 to 125, as many as the calendar has periods, if there is one
pub record TimesAt (s : List ℕ) (t : Times) (next : ℕ) : Type 0 where
  pub low : 1 ≤ t.count
  pub high : t.count ≤ 125
  pub periods : (days : List (List Period)) → t.days ≡ some days → period_count days ≡ t.count
  pub ahead : 0 < next
  pub inside : next ≤ length s

-- the same of times with these fields
times-same : (s : List ℕ) (n : ℕ) (o : Option (List (List Period))) {t : Times} {next : ℕ} → record { count = n; days = o } ≡ t → 1 ≤ n → n ≤ 125
    → ((days : List (List Period)) → o ≡ some days → period_count days ≡ n) → 0 < next → next ≤ length s → TimesAt s t next
times-same s n o {t} {next} e low high periods ahead inside =
    subst (λ (t : Times). TimesAt s t next) e (record { low = low; high = high; periods = periods; ahead = ahead; inside = inside })

pub none-some : {A : Type 0} {a : A} (Q : Type 0) → none ≡ some a → Q
none-some Q e = let z : ◌≡◌ {A = ℕ} 0 1 = cc in let f : ⊥ = omega arith in elim f [ ]

-- by the way that the test of the 0 took
abbrev calendar_then : List ℕ → ℕ → Parsed Times
calendar_then s at = and_then (calendar_at s at) (λ days end. got (record { count = period_count days; days = some days }) end)

times-by : (s : List ℕ) (T at : ℕ) {t : Times} {next : ℕ} → T ≤ 125 → 0 < at → at ≤ length s → (b : Bool) → eqb T 0 ≡ b
    → cond b (calendar_then s at) (got (record { count = T; days = none }) at) ≡ got t next → TimesAt s t next
times-by s T at {t} {next} high a l true d e =
    let p = and_then-got (calendar_at s at) (λ days end. got (record { count = period_count days; days = some days }) end) e in
    let c = calendar-got s at p.first in
    let end : p.next ≡ next = cc p.rest in
    times-same s (period_count p.value) (some p.value) (got-value p.rest) c.some c.few
    (λ days q. let same : p.value ≡ days = cc q in sym (ap period_count same)) (omega (arith, c.ahead)) (rw end at (c.inside l))
times-by s T at {t} {next} high a l false d e =
    let end : at ≡ next = cc in
    times-same s T none (got-value e) (omega (arith, eqb-false T 0 d)) high (λ days q. none-some (period_count days ≡ T) q) (omega arith) (omega arith)

pub times-got : (s : List ℕ) {t : Times} {next : ℕ} → times_at s ≡ got t next → TimesAt s t next
unfolding times_at
times-got s e =
    let p = and_then-got (limited 0 125 s 0) (λ T next. cond (eqb T 0) (calendar_then s next) (got (record { count = T; days = none }) next)) e in
    let l = limited-got 0 125 s 0 p.first in
    times-by s p.value p.next l.high l.ahead l.inside (eqb p.value 0) refl p.rest

-- the windows after the groups, in any file: lists of its times
pub windows-after : (o : Option (List (List Period))) (n : ℕ) (s : List ℕ) (at : ℕ) {ws : List (List ℕ)} {end : ℕ}
    → ((days : List (List Period)) → o ≡ some days → period_count days ≡ n) → windows_after o s at ≡ got ws end → WindowsRead n s at ws end
windows-after none n s at {ws} {end} h e =
    let empty : ws ≡ [] = cc in
    let same : at ≡ end = cc in
    record { each = rw empty each_none; count = rw empty (omega arith); ahead = omega arith; inside = λ l. omega arith }
windows-after (some days) n s at h e = rw (h days refl) at (windows-got days s at e)
