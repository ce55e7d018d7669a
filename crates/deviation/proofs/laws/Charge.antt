-- What each kind charges, told from the bytes of a timetable, the table of uses, the table of X and the rows of groups: laws.
use Prim.Native.Nat.{ℕ, ◌+◌, ◌-◌, ◌*◌, ◌<◌, ◌≤◌}
use mathlib.Core.Path.{◌≡◌, ap}
use mathlib.Core.List.{List}
use lib.ListN.{length, get_or, replicate, length-replicate, get_or-replicate}
use native.Mathlib.Omega.{arith}
use native.Mathlib.Nat.{mul-le-mul, mul-le-mul_right}
use Rattle.scope.specs.Instance.{Counts}
use Rattle.parsing.specs.Numbers.{Ascending}
use Rattle.parsing.proofs.laws.Numbers.{ascending-length}
use Rattle.number.specs.Lists.{leading}
use Rattle.number.proofs.laws.Lists.{length-leading, get_d-leading}
use Rattle.tables.specs.Rows.{row_at, RowIn}
use Rattle.constraint.specs.Valid.{OneOf}
use Rattle.timetable.proofs.laws.Uses.{member-in}
use Rattle.deviation.specs.Group.{Inside}
use Rattle.deviation.proofs.laws.Group.{ascending-inside}
use Rattle.deviation.specs.Sums.{EventsListed, GroupsListed}
use Rattle.deviation.specs.Held.{Flaggable}
use Rattle.deviation.specs.Charge.{MatrixIn, BytesIn, GroupsIn, ListIn}

-- the row of a resource and the row of an event are there, and so is its row of starts
pub resource-row : {n : Counts} {u : List ℕ} {r : ℕ} → MatrixIn n u → OneOf n.resources r → (r - 1) * n.times + n.times ≤ length u
resource-row {n} {u} {r} m o =
    let e : r - 1 + 1 ≡ r = omega (arith, o.low) in
    let f : (r - 1) * n.times + n.times ≡ r * n.times = omega (arith, ap (λ k. k * n.times) e) in
    omega (arith, m.room, mul-le-mul {n₁ = r} {m₁ = n.times} {n₂ = 99} {m₂ = 125} (omega (arith, o.high, m.sizes.resources)) m.sizes.times)

event-cells : (n : Counts) {e : ℕ} → OneOf n.events e → (e - 1) * n.times + n.times ≤ n.events * n.times
event-cells n {e} o =
    let k : e - 1 + 1 ≡ e = omega (arith, o.low) in
    let f : (e - 1) * n.times + n.times ≡ e * n.times = omega (arith, ap (λ j. j * n.times) k) in
    omega (arith, mul-le-mul_right {m = e} {n = n.events} n.times o.high)

pub event-row : {n : Counts} {b : List ℕ} {e : ℕ} → BytesIn n b → OneOf n.events e → (e - 1) * n.times + n.times ≤ length b
event-row {n} m o = omega (arith, m.room, event-cells n o)

pub start-row : {n : Counts} {b : List ℕ} {e : ℕ} → BytesIn n b → OneOf n.events e
    → n.events * n.times + (e - 1) * n.times + n.times ≤ length b
start-row {n} m o = omega (arith, m.room, event-cells n o)

-- a group that there is
module _ {n : Counts} {gs : List ℕ} {g : ℕ} (m : GroupsIn n gs) (o : OneOf n.groups g) where
  pub group_row : RowIn gs (g - 1)
  group_row = m.rows (g - 1) (omega (arith, o.low, o.high))

  pub group-times : Ascending n.times 0 (row_at gs (g - 1))
  group-times = m.ascending (g - 1) (omega (arith, o.low, o.high))

  -- its times can be flagged, in flags that are all 1
  pub group_flaggable : n.times ≤ 125 → Flaggable (row_at gs (g - 1)) (replicate 126 1)
  group_flaggable h =
      record {
        room = length-replicate {A = ℕ} 126 1;
        times = λ k l. omega (arith, member-in n.times group-times k l);
        ones = λ t l. get_or-replicate {A = ℕ} 126 t 1 0 l;
      }

  pub group_inside : {b : List ℕ} {base : ℕ} → base + n.times ≤ length b → Inside b base (row_at gs (g - 1))
  group_inside h = ascending-inside _ _ n.times _ h group-times

-- the first k members of a store are groups that there are, with bytes for their times
pub groups-listed : {n : Counts} {gs b l : List ℕ} {base k : ℕ} → GroupsIn n gs → ListIn k l → Ascending n.groups 0 (leading k l)
    → base + n.times ≤ length b → GroupsListed b base gs l k
groups-listed {n} {gs} {b} {l} {base} {k} m r a h =
    record {
      room = r.room;
      count = r.count;
      low = λ j d. (one j d).low;
      row = λ j d. group_row m (one j d);
      inside = λ j d. group_inside m (one j d) h;
    }
  where
    one : (j : ℕ) → j < k → OneOf n.groups (get_or l j 0)
    one j d =
        let i : j < length (leading k l) = rw length-leading d in
        let w = rw (get_d-leading k l j d) at (member-in n.groups a j i) in
        record { low = w.0; high = w.1 }

-- the first k members of a store are events, with bytes for the times of a group
pub events-listed : {n : Counts} {gs b l : List ℕ} {g k : ℕ} → BytesIn n b → GroupsIn n gs → OneOf n.groups g → ListIn k l
    → Ascending n.events 0 (leading k l) → EventsListed b (n.events * n.times) n.times gs (g - 1) l k
events-listed {n} {gs} {b} {l} {g} {k} f m o r a =
    record {
      room = r.room;
      count = r.count;
      row = group_row m o;
      low = λ j d. (one j d).low;
      inside = λ j d. group_inside m o (start-row f (one j d));
      high = λ j d. omega (arith, start-row f (one j d));
    }
  where
    one : (j : ℕ) → j < k → OneOf n.events (get_or l j 0)
    one j d =
        let i : j < length (leading k l) = rw length-leading d in
        let w = rw (get_d-leading k l j d) at (member-in n.events a j i) in
        record { low = w.0; high = w.1 }

-- a list of up to 2,048 references is in the store
pub listed_in : (most k : ℕ) (l : List ℕ) → length l ≡ 2048 → most ≤ 2048 → Ascending most 0 (leading k l) → ListIn k l
listed_in most k l h m a =
    let s : k ≤ most = omega (arith, ascending-length most 0 (leading k l) a (omega arith), length-leading k l) in
    record { room = omega arith; count = omega arith }
