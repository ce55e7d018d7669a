-- The times of a file, and the days of its calendar, by its first byte: laws.
use Prim.Native.Nat.{ℕ, suc, ◌+◌, ◌*◌, ◌%◌, ◌≤◌, ◌<◌}
use mathlib.Core.Path.{◌≡◌, refl, sym, ap, ◌∙◌}
use mathlib.Core.Bool.{Bool, true, false, cond}
use mathlib.Core.List.{List, [], ◌∷◌, ◌++◌}
use mathlib.Core.Option.{none, some}
use lib.Dec.{eqb, leb, ltb}
use lib.ListN.{length, drop, length-append}
use native.Mathlib.Omega.{arith}
use borrow.Author.Tests.{eqb-true, eqb-false}
use Rattle.std.proofs.lemmas.Bool.{false≢true}
use Rattle.scope.specs.Parsed.{Parsed, got, refused, and_then, unless}
use Rattle.scope.specs.Number.{Front, broken, whole, group, front, within, number_from, number, limited}
use Rattle.scope.specs.Calendar.{Period, period_count, calendar_at, windows_after}
use Rattle.scope.specs.Instance.{Times, times_at, groups_at, all_groups_at}
use Rattle.parsing.specs.Parsing.{list_of}
use Rattle.parsing.proofs.laws.Parsing.{and_then-got, unless-got, got-value, refused-got, cond-case}
use Rattle.parsing.proofs.laws.Calendar.{calendar-got, times-got, windows-after}
use Rattle.parsing.specs.Each.{Each, each_none, each_more}
use Rattle.parsing.specs.Numbers.{Ascending}
use Rattle.tables.specs.Room.{dated, group_room}
use Rattle.tables.proofs.laws.Reading.{groups-got}
use Rattle.windows.specs.Times.{times_in, days_in, Calendared, TimesRead}

-- a file that begins with a 0 has a calendar from byte 1 on
first-zero : (bs : List ℕ) → limited 0 125 (0 ∷ bs) 0 ≡ got 0 1
unfolding limited number within front
first-zero bs = refl

-- a byte that is not 0 begins no 0
group-not-zero : (b : ℕ) (f : Front) {n : ℕ} → group b f ≡ whole 0 n → ⊥
unfolding group
group-not-zero b broken e = let z : ◌≡◌ {A = ℕ} 0 1 = cc in omega arith
group-not-zero b (whole w m) {n} e =
    by (eqb w 0) refl e
  where
    by : (t : Bool) → eqb w 0 ≡ t → cond t broken (whole (b % 128 + 128 * w) (suc m)) ≡ whole 0 n → ⊥
    by true t e = let z : ◌≡◌ {A = ℕ} 0 1 = cc in omega arith
    by false t e = let k : b % 128 + 128 * w ≡ 0 = cc in omega (arith, eqb-false w 0 t)

front-zero : (bs : List ℕ) {n : ℕ} → front bs ≡ whole 0 n → dated bs ≡ true
unfolding front
front-zero [] e = let z : ◌≡◌ {A = ℕ} 0 1 = cc in let f : ⊥ = omega arith in absurd f
front-zero (b ∷ bs) {n} e =
    cond-case (eqb b 0 ≡ true) (ltb b 128) (λ e. let k : b ≡ 0 = cc in rw k)
    (λ e. absurd (group-not-zero b (front bs) e))
    e

within-zero : (f : Front) (at : ℕ) {n : ℕ} → number_from at (within f) ≡ got 0 n → (m : ℕ) × (f ≡ whole 0 m)
unfolding within
within-zero broken at {n} e = refused-got ((m : ℕ) × (broken ≡ whole 0 m)) e
within-zero (whole w m) at {n} e = by (leb w 4294967295) e
  where
    by : (t : Bool) → number_from at (cond t (whole w m) broken) ≡ got 0 n → (k : ℕ) × (whole w m ≡ whole 0 k)
    by true e = let k : w ≡ 0 = cc in (m, rw k)
    by false e = refused-got ((k : ℕ) × (whole w m ≡ whole 0 k)) e

number-zero : (s : List ℕ) {n : ℕ} → number s 0 ≡ got 0 n → dated s ≡ true
unfolding number
number-zero s e = let r = within-zero (front (drop 0 s)) 0 e in front-zero s r.1

limited-zero : (s : List ℕ) {n : ℕ} → limited 0 125 s 0 ≡ got 0 n → dated s ≡ true
unfolding limited
limited-zero s {n} e =
    let p = and_then-got (number s 0) (λ v next. unless (leb 0 v) 2 0 (unless (leb v 125) 2 0 (got v next))) e in
    let q = unless-got (leb 0 p.value) 2 0 (unless (leb p.value 125) 2 0 (got p.value p.next)) p.rest in
    let r = unless-got (leb p.value 125) 2 0 (got p.value p.next) q.rest in
    let same : p.value ≡ 0 = cc r.rest in
    number-zero s (p.first ∙ ap (λ v. got v p.next) same)

-- what a dated file's times are, and another's
dated-got : (p : Parsed (List (List Period))) {t : Times} {next : ℕ}
    → and_then p (λ days end. got (record { count = period_count days; days = some days }) end) ≡ got t next
    → (t.days ≡ some (list_of p)) × (p ≡ got (list_of p) next)
dated-got (got days end) {t} {next} e =
    let k : ◌≡◌ {A = Times} (record { count = period_count days; days = some days }) t = cc in
    let h : end ≡ next = cc in
    (sym (ap (λ (t : Times). t.days) k), rw h)
dated-got (refused k v) {t} {next} e = refused-got ((t.days ≡ some []) × (refused k v ≡ got [] next)) e

by_first : (s : List ℕ) → dated s ≡ true → (bs : List ℕ) × (s ≡ 0 ∷ bs)
by_first [] e = absurd (false≢true e)
by_first (b ∷ bs) e = (bs, rw (eqb-true b 0 e))

module _ (s : List ℕ) {count : ℕ} (r : TimesRead s count) where
  calendar_after : dated s ≡ true → times_at s ≡ and_then (calendar_at s 1) (λ days end. got (record { count = period_count days; days = some days }) end)
  unfolding times_at
  calendar_after d = let k = by_first s d in let e : limited 0 125 s 0 ≡ got 0 1 = rw k.1 (first-zero k.0) in rw e

  -- a dated file has the days that stand after its first byte
  pub times_calendared : dated s ≡ true → Calendared s
  times_calendared d =
      let g = dated-got (calendar_at s 1) {t = times_in s} {next = r.next} (sym (calendar_after d) ∙ r.read) in
      let c = calendar-got s 1 g.1 in
      record { end = r.next; read = rw (sym (ap list_of c.repeated)) at g.1 }

  pub times_dated : dated s ≡ true → (times_in s).days ≡ some (days_in s)
  times_dated d =
      let g = dated-got (calendar_at s 1) {t = times_in s} {next = r.next} (sym (calendar_after d) ∙ r.read) in
      let c = calendar-got s 1 g.1 in
      g.0 ∙ ap (λ ds. some ds) (sym (ap list_of c.repeated))

-- and a file that begins with another byte has no days
undated-by : (s : List ℕ) (T m : ℕ) {t : Times} {next : ℕ} → limited 0 125 s 0 ≡ got T m → (z : Bool) → eqb T 0 ≡ z
    → cond z (and_then (calendar_at s m) (λ days end. got (record { count = period_count days; days = some days }) end)) (got (record { count = T; days = none }) m) ≡ got t next
    → dated s ≡ false → t.days ≡ none
undated-by s T m {t} f true z e d = absurd (false≢true (sym d ∙ limited-zero s (f ∙ ap (λ v. got v m) (eqb-true T 0 z))))
undated-by s T m {t} f false z e d =
    let same : ◌≡◌ {A = Times} (record { count = T; days = none }) t = cc in sym (ap (λ (t : Times). t.days) same)

times-undated : (s : List ℕ) {t : Times} {next : ℕ} → times_at s ≡ got t next → dated s ≡ false → t.days ≡ none
unfolding times_at
times-undated s e =
    let a = and_then-got (limited 0 125 s 0) (λ T next. cond (eqb T 0) (and_then (calendar_at s next) (λ days end. got (record { count = period_count days; days = some days }) end)) (got (record { count = T; days = none }) next)) e in
    undated-by s a.value a.next a.first (eqb a.value 0) refl a.rest

module _ (s : List ℕ) {count : ℕ} (r : TimesRead s count) where
  pub times_high : count ≤ 125
  times_high = omega (arith, (times-got s r.read).high, r.so_many)

  pub times_plain : dated s ≡ false → (times_in s).days ≡ none
  times_plain d = times-undated s r.read d

-- the groups of such a file ascend, and there are as many as the table has room for
pub record AllGroupsAt (s : List ℕ) (t : Times) (at : ℕ) (gs : List (List ℕ)) (end : ℕ) : Type 0 where
  pub each : Each (Ascending t.count 0) gs
  pub count : length gs ≤ group_room s
  pub ahead : at < end
  pub inside : end ≤ length s

each_append : {A : Type 0} {P : A → Type 0} (xs ys : List A) → Each P xs → Each P ys → Each P (xs ++ ys)
each_append [] ys each_none e = e
each_append (x ∷ xs) ys (each_more p ps) e = each_more p (each_append xs ys ps e)

room-when : (b : Bool) (n : ℕ) → (b ≡ false → n ≡ 0) → n ≤ 1024 → 1024 + n ≤ cond b 2048 1024
room-when true n z h = omega arith
room-when false n z h = let k = z refl in omega arith

-- windows stand in a dated file alone
windows-room : (s : List ℕ) (t : Times) {m : ℕ} → times_at s ≡ got t m → (at : ℕ) {ws : List (List ℕ)} {end : ℕ} → windows_after t.days s at ≡ got ws end
    → length ws ≤ 1024 → 1024 + length ws ≤ group_room s
windows-room s t r at {ws} {end} e h = room-when (dated s) (length ws) (λ u. none_of (rw (times-undated s r u) at e)) h
  where
    none_of : windows_after none s at ≡ got ws end → length ws ≡ 0
    none_of e = let k : ws ≡ [] = cc in rw k

pub all-groups-got : (s : List ℕ) (t : Times) {m : ℕ} → times_at s ≡ got t m → (at : ℕ) {gs : List (List ℕ)} {end : ℕ} → all_groups_at 1024 t s at ≡ got gs end
    → AllGroupsAt s t at gs end
unfolding all_groups_at
all-groups-got s t r at {gs} {end} e =
    let a = and_then-got (groups_at 1024 t.count s at) (λ gs next. and_then (windows_after t.days s next) (λ ws end. got (gs ++ ws) end)) e in
    let b = and_then-got (windows_after t.days s a.next) (λ ws end. got (a.value ++ ws) end) a.rest in
    let same : a.value ++ b.value ≡ gs = got-value {a = a.value ++ b.value} {m = b.next} b.rest in
    let here : b.next ≡ end = cc b.rest in
    let g = groups-got t.count s at {gs = a.value} {end = a.next} a.first in
    let w = windows-after t.days t.count s a.next {ws = b.value} {end = b.next} (times-got s r).periods b.first in
    let room = windows-room s t r a.next {ws = b.value} {end = b.next} b.first w.count in
    record {
      each = rw same at (each_append a.value b.value g.each w.each);
      count = omega (arith, g.count, room, length-append a.value b.value, ap (λ (gs : List (List ℕ)). length gs) same);
      ahead = omega (arith, g.ahead, w.ahead);
      inside = rw here at (w.inside g.inside);
    }
