-- What is known of sizes and tables that were read: laws.
use Prim.Native.Nat.{ℕ, ◌≤◌}
use mathlib.Core.Path.{◌≡◌, sym, subst}
use mathlib.Core.List.{List}
use lib.ListN.{length}
use native.Mathlib.Omega.{arith}
use mathlib.Core.Option.{none}
use Rattle.scope.specs.Parsed.{Parsed, got, refused, and_then, repeat}
use Rattle.scope.specs.Number.{limited}
use Rattle.scope.specs.Instance.{Times, times_at, event_at, all_groups_at}
use Rattle.parsing.proofs.laws.Parsing.{and_then-got, refused-got}
use Rattle.parsing.specs.Each.{Each}
use Rattle.parsing.specs.Numbers.{Ascending}
use Rattle.parsing.proofs.laws.Numbers.{limited-got}
use Rattle.tables.specs.Reading.{EventIn}
use Rattle.tables.proofs.laws.Reading.{events-got}
use Rattle.tables.specs.Room.{group_room}
use Rattle.calendar.specs.Answers.{times_counted}
use Rattle.windows.specs.Times.{times_of, times_in, TimesRead}
use Rattle.windows.proofs.laws.Times.{all-groups-got}
use Rattle.parsing.proofs.laws.Calendar.{times-got}
use Rattle.instance.specs.declared.reader.Sizes.{Sizes}
use Rattle.instance.specs.Answers.{start_of}
use Rattle.instance.specs.File.{Start, sizes_in, tables_at}
use Rattle.instance.specs.Start.{SizesIn}

-- the times of a file that were counted
counted-times : (p : Parsed Times) {T a : ℕ} → times_counted p ≡ got T a → (p ≡ got (times_of p) a) × ((times_of p).count ≡ T)
unfolding times_counted
counted-times (got t b) {T} {a} e = let k : b ≡ a = cc in let n : t.count ≡ T = cc in (rw k, n)
counted-times (refused k v) {T} {a} e = refused-got ((refused k v ≡ got (record { count = 0; days = none }) a) × (0 ≡ T)) e

pub record SizesAt (s : List ℕ) (n : ℕ × ℕ × ℕ) (end : ℕ) : Type 0 where
  pub sizes : SizesIn n.0 n.1 n.2
  pub times : TimesRead s n.0
  pub inside : end ≤ length s

pub sizes-got : (s : List ℕ) {n : ℕ × ℕ × ℕ} {end : ℕ} → sizes_in s ≡ got n end → SizesAt s n end
unfolding sizes_in
sizes-got s {n} {end} e =
    let a = and_then-got (times_counted (times_at s)) (λ T a. and_then (limited 1 1024 s a) (λ E b. and_then (limited 0 99 s b) (λ R c. got (T, E, R) c))) e in
    let b = and_then-got (limited 1 1024 s a.next) (λ E b. and_then (limited 0 99 s b) (λ R c. got (a.value, E, R) c)) a.rest in
    let c = and_then-got (limited 0 99 s b.next) (λ R c. got (a.value, b.value, R) c) b.rest in
    let h : ◌≡◌ {A = ℕ × ℕ × ℕ} (a.value, b.value, c.value) n = cc c.rest in
    let k : c.next ≡ end = cc c.rest in
    let t = counted-times (times_at s) {T = a.value} {a = a.next} a.first in
    let x = times-got s {t = times_in s} {next = a.next} t.0 in
    let r : TimesRead s a.value = record { next = a.next; read = t.0; so_many = t.1 } in
    let y = limited-got 1 1024 s a.next {v = b.value} {next = b.next} b.first in
    let z = limited-got 0 99 s b.next {v = c.value} {next = c.next} c.first in
    let w : SizesIn a.value b.value c.value =
    record { times_low = omega (arith, x.low, t.1); times_high = omega (arith, x.high, t.1); events_low = y.low; events_high = y.high; resources_high = z.high }
    in
    record {
      sizes = subst (λ (n : ℕ × ℕ × ℕ). SizesIn n.0 n.1 n.2) {x = (a.value, b.value, c.value)} h w;
      times = subst (λ (n : ℕ × ℕ × ℕ). TimesRead s n.0) {x = (a.value, b.value, c.value)} h r;
      inside = omega (arith, z.inside);
    }

-- what is known of the sizes that a call gave
pub sizes-value : (s : List ℕ) {T E R n : ℕ} → got (T, E, R) n ≡ sizes_in s → SizesIn T E R
sizes-value s e = (sizes-got s (sym e)).sizes

pub times-value : (s : List ℕ) {T E R n : ℕ} → got (T, E, R) n ≡ sizes_in s → TimesRead s T
times-value s e = (sizes-got s (sym e)).times

-- an instance without its constraints, in the file s
pub record StartIn (s : List ℕ) (t : Start) : Type 0 where
  pub sizes : SizesIn t.times (length t.events) t.resources
  pub events : Each (EventIn t.times t.resources) t.events
  pub groups : Each (Ascending t.times 0) t.groups
  pub group_count : length t.groups ≤ group_room s

pub record TablesAt (s : List ℕ) (t : Start) (end : ℕ) : Type 0 where
  pub start : StartIn s t
  pub inside : end ≤ length s

pub tables-got : (s : List ℕ) {t : Start} {end : ℕ} → tables_at s ≡ got t end → TablesAt s t end
unfolding tables_at
tables-got s {t} {end} e =
    let a =
    and_then-got (sizes_in s)
    (λ n a.
    and_then (repeat n.1 (event_at n.0 n.2 s) a)
    (λ es b.
    and_then (all_groups_at 1024 (times_in s) s b) (λ gs c. got (record { times = n.0; resources = n.2; events = es; groups = gs }) c)))
    e
    in
    let n = a.value in
    let b =
    and_then-got (repeat n.1 (event_at n.0 n.2 s) a.next)
    (λ es b.
    and_then (all_groups_at 1024 (times_in s) s b) (λ gs c. got (record { times = n.0; resources = n.2; events = es; groups = gs }) c))
    a.rest
    in
    let g =
    and_then-got (all_groups_at 1024 (times_in s) s b.next)
    (λ gs c. got (record { times = n.0; resources = n.2; events = b.value; groups = gs }) c)
    b.rest
    in
    let h : ◌≡◌ {A = Start} (record { times = n.0; resources = n.2; events = b.value; groups = g.value }) t = cc g.rest in
    let k : g.next ≡ end = cc g.rest in
    let x = sizes-got s a.first in
    let y = events-got n.0 n.2 n.1 s a.next {es = b.value} {end = b.next} b.first in
    let z = all-groups-got s (times_in s) x.times.read b.next {gs = g.value} {end = g.next} g.first in
    let each : Each (Ascending n.0 0) g.value = rw x.times.so_many at z.each in
    let w : StartIn s (record { times = n.0; resources = n.2; events = b.value; groups = g.value }) =
    record { sizes = rw y.count x.sizes; events = y.each; groups = each; group_count = z.count }
    in
    record { start = subst (StartIn s) {x = record { times = n.0; resources = n.2; events = b.value; groups = g.value }} h w; inside = omega (arith, z.inside) }

-- what is known of the tables that a call filled
pub tables_start : (s d te tg : List ℕ) (w : Sizes) {n : ℕ} → got (start_of d te tg w) n ≡ tables_at s → StartIn s (start_of d te tg w)
tables_start s d te tg w e = (tables-got s (sym e)).start
