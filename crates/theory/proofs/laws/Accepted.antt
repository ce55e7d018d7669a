-- What an accepted instance satisfies: every limit, reference and list that the reader checks: laws.
use mathlib.Core.List.{List, [], ◌∷◌}
use Prim.Native.Nat.{ℕ, suc, ◌-◌}
use native.Mathlib.Omega.{arith}
use lib.Dec.{leb}
use lib.ListN.{length, length-append}
use borrow.Author.Tests.{leb-true}
use Rattle.laws.specs.Lists.{All, All-append, All-at, All-weaken}
use Rattle.scope.specs.Parsed.{Parsed, and_then, repeat}
use Rattle.scope.specs.Number.{limited, listed}
use Rattle.scope.specs.Calendar.{windows_after}
use Rattle.scope.specs.Kinds.{Event, group_at, longest}
use Rattle.scope.specs.Instance.{Instance, Counts, counts_of, Times, event_at, fields_read, fields_of, distinct, ordered, ended, constraint_at, times_at, sizes_at, groups_at, all_groups_at, constraints_at, file_up_to, parse}
use Rattle.scope.specs.Demands.{Accepted}
use Rattle.parsing.specs.Each.{Each, each_none, each_more}
use Rattle.parsing.specs.Numbers.{Ascending, none, more}
use Rattle.parsing.proofs.laws.Calendar.{TimesAt, times-got, windows-after}
use Rattle.parsing.proofs.laws.Numbers.{limited-got, listed-got}
use Rattle.parsing.proofs.laws.ValidRows.{kind-read}
use Rattle.theory.proofs.laws.Readings.{Gives, gives-value, gives-and_then, gives-unless, gives-repeat}
use Rattle.parsing.specs.Valid.{Within, InRange}
use Rattle.theory.specs.Accepted.{ValidEvent, counted, ValidConstraint, ValidInstance}

-- P holds of each, in both ways to say it
all-each : {A : Type 0} {P : A → Type 0} {xs : List A} → Each P xs → All P xs
all-each each_none = tt
all-each (each_more p ps) = (p, all-each ps)

-- each reading gives what it checks
pub gives-limited : (lo hi : ℕ) (s : List ℕ) (at : ℕ) → Gives (Within lo hi) (limited lo hi s at)
gives-limited lo hi s at =
    record { known = λ v next e. let r = limited-got lo hi s at e in record { low = r.low; high = r.high } }

pub gives-listed : (n : ℕ) (s : List ℕ) (at : ℕ) → Gives (Ascending n 0) (listed n s at)
gives-listed n s at = record { known = λ xs end e. (listed-got n s at e).ascending }

-- an event
pub gives-event : (T R : ℕ) (s : List ℕ) (at : ℕ) → Gives (ValidEvent T R) (event_at T R s at)
unfolding event_at
gives-event T R s at =
    gives-and_then (gives-limited 1 T s at)
    (λ d next a. gives-and_then (gives-listed R s next) (λ rs end b. gives-value (record { duration = a; resources = b })))

-- the fields of a kind
gives-fields : (n : Counts) (s : List ℕ) (at k : ℕ) → Within 1 11 k → Gives (InRange n) (fields_read (fields_of n k) s at)
gives-fields n s at k w = record { known = λ kind end e. (kind-read n s at k kind end w.low w.high e).holds }

-- a constraint, with the checks at its end
pub gives-constraint : (T R : ℕ) (es : List Event) (gs : List (List ℕ)) (s : List ℕ) (at : ℕ)
    → Gives (ValidConstraint T R es gs) (constraint_at T R es gs s at)
unfolding constraint_at ended
gives-constraint T R es gs s at =
    gives-and_then (gives-limited 1 11 s at)
    (λ kind next i.
    gives-and_then (gives-limited 0 1000 s next)
    (λ weight after w.
    gives-and_then (gives-fields (counts_of T R es gs) s after kind i)
    (λ k end f.
    let x = counted T es gs k in
    let n = longest x.lists in
    gives-unless (leb n 255) 4 at
    (λ a.
    gives-unless (distinct k) 19 at
    (λ d.
    gives-unless (ordered k) 5 at
    (λ o.
    gives-unless (leb x.lo x.hi) 5 at
    (λ b.
    gives-unless (leb x.lo n) 5 at
    (λ c.
    gives-value
    (record {
      weight = w;
      fields = f;
      distinct = d;
      ordered = o;
      lists = leb-true n 255 a;
      bounds = leb-true x.lo x.hi b;
      reached = leb-true x.lo n c;
    })))))))))

-- the times
record ValidTimes (s : List ℕ) (t : Times) : Type 0 where
  next : ℕ
  at : TimesAt s t next

gives-times : (s : List ℕ) → Gives (ValidTimes s) (times_at s)
gives-times s = record { known = λ t end e. record { next = end; at = times-got s e } }

-- two sizes
record ValidSizes (n : ℕ × ℕ) : Type 0 where
  events : Within 1 1024 n.0
  resources : Within 0 99 n.1

gives-sizes : (s : List ℕ) (at : ℕ) → Gives ValidSizes (sizes_at s at)
unfolding sizes_at
gives-sizes s at =
    gives-and_then (gives-limited 1 1024 s at)
    (λ E b q. gives-and_then (gives-limited 0 99 s b) (λ R c r. gives-value (record { events = q; resources = r })))

-- a count within its limits, then so many things
record Several {A : Type 0} (P : A → Type 0) (most : ℕ) (xs : List A) : Type 0 where
  count : Within 0 most (length xs)
  each : All P xs

gives-counted : {A : Type 0} {P : A → Type 0} {f : ℕ → Parsed A} → ((at : ℕ) → Gives P (f at)) → (most : ℕ) (s : List ℕ) (at : ℕ)
    → Gives (Several P most) (and_then (limited 0 most s at) (λ count next. repeat count f next))
gives-counted h most s at =
    gives-and_then (gives-limited 0 most s at)
    (λ count next w.
    record {
      known = λ xs end e. let m = (gives-repeat h count next).known xs end e in record { count = rw m.count w; each = m.each };
    })

gives-groups : (T : ℕ) (s : List ℕ) (at : ℕ) → Gives (Several (Ascending T 0) 1024) (groups_at 1024 T s at)
unfolding groups_at
gives-groups T s at = gives-counted (gives-listed T s) 1024 s at

-- the windows of a calendar, or none
gives-windows : (t : Times) (s : List ℕ) (at : ℕ) → ValidTimes s t → Gives (Several (Ascending t.count 0) 1024) (windows_after t.days s at)
gives-windows t s at v =
    record {
      known = λ ws end h.
          let w = windows-after t.days t.count s at v.at.periods h in
          record { count = record { low = omega arith; high = w.count }; each = all-each w.each };
    }

-- the groups together
gives-all-groups : (t : Times) (s : List ℕ) (at : ℕ) → ValidTimes s t
    → Gives (Several (Ascending t.count 0) 2048) (all_groups_at 1024 t s at)
unfolding all_groups_at
gives-all-groups t s at v =
    gives-and_then (gives-groups t.count s at)
    (λ gs next g.
    gives-and_then (gives-windows t s next v)
    (λ ws end w.
    gives-value
    (record {
      count = record { low = omega arith; high = rw (length-append gs ws) (omega (arith, g.count.high, w.count.high)) };
      each = All-append (Ascending t.count 0) gs ws g.each w.each;
    })))

gives-constraints : (T R : ℕ) (es : List Event) (gs : List (List ℕ)) (s : List ℕ) (at : ℕ)
    → Gives (Several (ValidConstraint T R es gs) 4096) (constraints_at T R es gs s at)
unfolding constraints_at
gives-constraints T R es gs s at = gives-counted (gives-constraint T R es gs s) 4096 s at

-- the whole file
pub gives-instance : (s : List ℕ) → Gives ValidInstance (parse s)
unfolding parse file_up_to
gives-instance s =
    gives-and_then (gives-times s)
    (λ t a v.
    gives-and_then (gives-sizes s a)
    (λ n b z.
    gives-and_then (gives-repeat (gives-event t.count n.1 s) n.0 b)
    (λ es c e.
    gives-and_then (gives-all-groups t s c v)
    (λ gs d g.
    gives-and_then (gives-constraints t.count n.1 es gs s d)
    (λ cs end k.
    gives-unless (leb (length s) end) 6 end
    (λ _.
    gives-value
    (record {
      times = record { low = v.at.low; high = v.at.high };
      event-count = rw e.count z.events;
      resources = z.resources;
      events = e.each;
      group_count = g.count;
      groups = g.each;
      constraint_count = k.count;
      constraints = k.each;
    })))))))

-- an accepted instance satisfies all of it
pub accepted-valid : (file : List ℕ) (i : Instance) → Accepted file i → ValidInstance i
accepted-valid file i a = (gives-instance file).known i a.end a.parsed

-- the members of an ascending list are within its limits
pub ascending-within : (before n : ℕ) (xs : List ℕ) → Ascending n before xs → All (Within (suc before) n) xs
ascending-within before n [] none = tt
ascending-within before n (x ∷ xs) (more a b h) =
    let above : (y : ℕ) → Within (suc x) n y → Within (suc before) n y =
    λ y w. record { low = omega (arith, a, w.low); high = w.high } in
    (record { low = a; high = b }, All-weaken (Within (suc x) n) (Within (suc before) n) above xs (ascending-within x n xs h))

-- the members of a group that there is are times
pub group-within : (i : Instance) → ValidInstance i → (g : ℕ) → Within 1 (length i.groups) g
    → All (Within 1 i.times) (group_at i.groups g)
group-within i v g w =
    ascending-within 0 i.times (group_at i.groups g)
    (All-at (Ascending i.times 0) [] i.groups (g - 1) (omega (arith, w.low, w.high)) v.groups)
