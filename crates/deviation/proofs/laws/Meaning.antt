-- What is charged for a constraint of each kind is its deviation by the definitions, for a timetable's bytes b, the table u of its
-- uses and the table x of X.
use Prim.Native.Nat.{ℕ, zero, suc, ◌+◌, ◌-◌, ◌*◌, ◌<◌, ◌≤◌}
use mathlib.Core.Path.{◌≡◌, refl, sym, ap, ap₂, fun_ext, ◌∙◌}
use mathlib.Core.Bool.{Bool, true, false, cond, ◌||◌}
use mathlib.Core.List.{List, ◌∷◌, map, flat_map, sum, map-map}
use lib.ListN.{length, get_or}
use lib.Dec.{ltb, eqb}
use native.Mathlib.Omega.{arith}
use native.Mathlib.Nat.{add_assoc, mul-le-mul}
use Rattle.scope.specs.Cnf.{bit}
use Rattle.scope.specs.Kinds.{Kind, clash, unavailable, preferred, split, spread, busy, cluster, idle, distribute, lengths, precedence, Y, S, X, atom, any_of, from, up_to, event_of, duration_of, users, group_at, uses_at, starts_at, counted_of, rules_of}
use Rattle.scope.specs.Instance.{Instance, Counts}
use Rattle.scope.specs.Score.{trues, any, deviation, deviations, truth, slots, event_right}
use Rattle.scope.specs.Subevents.{subevents, times_held}
use Rattle.scope.specs.Gap.{times_taken}
use Rattle.theory.proofs.laws.Entries.{entry_true, trues-flat}
use Rattle.theory.proofs.laws.Lowered.{deviation-zero}
use Rattle.theory.proofs.laws.Subevents.{distribute-counts, lengths-counts}
use Rattle.theory.proofs.laws.Held.{times-charged}
use Rattle.theory.proofs.laws.IdleWalk.{idle-charged}
use Rattle.theory.proofs.laws.FirstLast.{right-taken}
use Rattle.theory.proofs.laws.Gap.{precedence-charged}
use Rattle.parsing.specs.Numbers.{Ascending, none, more}
use Rattle.tables.specs.Rows.{row_at, rows, events_of}
use Rattle.tables.proofs.laws.Laws.{group_row}
use Rattle.constraint.specs.Valid.{OneOf, InRange}
use Rattle.timetable.specs.Bits.{marks}
use Rattle.timetable.specs.Right.{Passed}
use Rattle.timetable.proofs.laws.Bits.{bit-next}
use Rattle.timetable.proofs.laws.Right.{each_right}
use Rattle.timetable.proofs.laws.Takers.{takers-users, any-trues}
use Rattle.timetable.specs.Uses.{UsesOf, Marked}
use Rattle.deviation.specs.Sums.{total}
use Rattle.deviation.specs.Subevents.{alone, subevents_at}
use Rattle.deviation.specs.Held.{times_held_at, outside_of}
use Rattle.deviation.specs.Gap.{taken_in}
use Rattle.deviation.proofs.laws.Subevents.{subevents_same}
use Rattle.deviation.proofs.laws.Held.{times_held_same}
use Rattle.deviation.proofs.laws.Gap.{gap_same}
use Rattle.deviation.proofs.laws.Counting.{trues-total, deviation-one, one_list, one_limit, many_lists}
use Rattle.deviation.specs.Charge.{charge_of, clash_charge, unavailable_charge, preferred_charge, split_charge, spread_charge, busy_charge, cluster_charge, idle_charge, distribute_charge, lengths_charge, precedence_charge}

-- the table of uses and the table of X say of an instance's timetable what the definitions say
pub record Seen (i : Instance) (b u x : List ℕ) : Type 0 where
  pub uses : (r t : ℕ) → 1 ≤ r → r ≤ 99 → 1 ≤ t → t ≤ i.times
      → get_or u ((r - 1) * i.times + (t - 1)) 0 ≡ trues (map (λ e. bit b ((e - 1) * i.times + t)) (users r i.events))
  pub used : (r t : ℕ) → 1 ≤ r → r ≤ 99 → 1 ≤ t → t ≤ i.times → bit x ((r - 1) * i.times + t) ≡ truth i b (X r t)

byte-bit : (t : Bool) → eqb (cond t 1 0) 1 ≡ t
byte-bit true = refl
byte-bit false = refl

-- they do, where the tables were made of rows of resources
pub tables-seen : (i : Instance) (b u x d rs : List ℕ) (n : ℕ) → i.events ≡ events_of d rs n → i.times ≤ 125 → length u ≡ 12375
    → UsesOf i.times b rs n u → Marked u x → Seen i b u x
unfolding truth
tables-seen i b u x d rs n e h l a m = record { uses = count; used = mark }
  where
    count : (r t : ℕ) → 1 ≤ r → r ≤ 99 → 1 ≤ t → t ≤ i.times
        → get_or u ((r - 1) * i.times + (t - 1)) 0 ≡ trues (map (λ e. bit b ((e - 1) * i.times + t)) (users r i.events))
    count r t p q v w =
        let j : suc (r - 1) ≡ r = omega arith in
        let k : suc (t - 1) ≡ t = omega arith in
        a.each (r - 1) (t - 1) (omega arith) (omega arith)
        ∙ rw (j, k, e) (takers-users i.times b d rs r t n)

    mark : (r t : ℕ) → 1 ≤ r → r ≤ 99 → 1 ≤ t → t ≤ i.times
        → bit x ((r - 1) * i.times + t) ≡ any (map (λ e. bit b ((e - 1) * i.times + t)) (users r i.events))
    mark r t p q v w =
        let T = i.times in
        let k : (r - 1) * T + t ≡ (r - 1) * T + (t - 1 + 1) = omega arith in
        let f : r - 1 + 1 ≡ r = omega arith in
        let g : (r - 1) * T + T ≡ r * T = omega (arith, ap (λ n. n * T) f) in
        let room : (r - 1) * T + (t - 1) < length u = omega (arith, mul-le-mul {n₁ = r} {m₁ = T} {n₂ = 99} {m₂ = 125} q h) in
        ap (bit x) k
        ∙ bit-next x ((r - 1) * T) (t - 1)
        ∙ rw (m.each ((r - 1) * T + (t - 1)) room, byte-bit (ltb 0 (get_or u ((r - 1) * T + (t - 1)) 0)), count r t p q v w, any-trues)

-- sums that agree on the numbers that they are over
total-from : (f g : ℕ → ℕ) (s k : ℕ) → ((t : ℕ) → s ≤ t → t < s + k → f t ≡ g t) → total f (from s k) ≡ total g (from s k)
unfolding sum from
total-from f g s zero h = refl
total-from f g s (suc k) h = ap₂ ◌+◌ (h s (omega arith) (omega arith)) (total-from f g (suc s) k (λ t l m. h t (omega arith) (omega arith)))

total-listed : (f g : ℕ → ℕ) (n : ℕ) {before : ℕ} {l : List ℕ} → Ascending n before l → ((t : ℕ) → OneOf n t → f t ≡ g t)
    → total f l ≡ total g l
unfolding sum
total-listed f g n none h = refl
total-listed f g n (more {x = y} a b r) h = ap₂ ◌+◌ (h y (record { low = omega arith; high = b })) (total-listed f g n r h)

module _ (i : Instance) (b u x gs : List ℕ) (G : ℕ) (seen : Seen i b u x) (table : i.groups ≡ rows gs G) (times : (g : ℕ) → g < G → Ascending i.times 0 (row_at gs g)) where
  -- X at the times of a group
  marks_used : (r : ℕ) → 1 ≤ r → r ≤ 99 → {before : ℕ} {ts : List ℕ} → Ascending i.times before ts
      → marks x ((r - 1) * i.times) ts ≡ map (truth i b) (uses_at r ts)
  marks_used r lo hi none = refl
  marks_used r lo hi (more {x = t} a c d) = ap₂ ◌∷◌ (seen.used r t lo hi (omega arith) c) (marks_used r lo hi d)

  group_is : (g : ℕ) → OneOf G g → group_at i.groups g ≡ row_at gs (g - 1)
  group_is g o = rw table (group_row gs G g o.low o.high)

  group_used : (r g : ℕ) → 1 ≤ r → r ≤ 99 → OneOf G g
      → marks x ((r - 1) * i.times) (row_at gs (g - 1)) ≡ map (truth i b) (uses_at r (group_at i.groups g))
  group_used r g lo hi o = rw (group_is g o) (marks_used r lo hi (times (g - 1) (omega (arith, o.low, o.high))))

  -- the lists of each kind, valued
  uses_valued : (r : ℕ) (ts : List ℕ) → map (entry_true (truth i b)) (map atom (uses_at r ts)) ≡ map (truth i b) (uses_at r ts)
  unfolding entry_true
  uses_valued r ts = map-map (entry_true (truth i b)) atom (uses_at r ts)

  starts_valued : (e : ℕ) (ts : List ℕ) → map (entry_true (truth i b)) (starts_at e ts) ≡ marks b (slots i + (e - 1) * i.times) ts
  unfolding entry_true truth
  starts_valued e ts =
      map-map (entry_true (truth i b)) (λ t. atom (S e t)) ts
      ∙ ap (λ f. map f ts) (fun_ext (λ t. ap (bit b) (sym (add_assoc (slots i) ((e - 1) * i.times) t))))

  takers_valued : (t : ℕ) (es : List ℕ) → map (entry_true (truth i b)) (map (λ e. atom (Y e t)) es) ≡ map (λ e. bit b ((e - 1) * i.times + t)) es
  unfolding entry_true truth
  takers_valued t es = map-map (entry_true (truth i b)) (λ e. atom (Y e t)) es

  some_valued : (r : ℕ) (hs : List ℕ)
      → trues (map (entry_true (truth i b)) (map (λ g. any_of (uses_at r (group_at i.groups g))) hs))
      ≡ total (λ g. cond (any (map (truth i b) (uses_at r (group_at i.groups g)))) 1 0) hs
  unfolding entry_true
  some_valued r hs =
      ap trues (map-map (entry_true (truth i b)) (λ g. any_of (uses_at r (group_at i.groups g))) hs)
      ∙ trues-total (λ g. any (map (truth i b) (uses_at r (group_at i.groups g)))) hs

  -- each kind
  abbrev Right : Kind → Type 0
  Right k = charge_of (slots i) i.times b u x gs k ≡ deviations (truth i b) (rules_of i.times (duration_of i.events) (λ r. users r i.events) (group_at i.groups) k)

  clash_right : (r : ℕ) → 1 ≤ r → r ≤ 99 → Right (clash r)
  unfolding clash_charge counted_of
  clash_right r lo hi =
      sym (many_lists (truth i b) 0 1 (λ t. map (λ e. atom (Y e t)) (users r i.events)) (up_to i.times)
      ∙ total-from _ _ 1 i.times
      (λ t l m. rw (deviation-one, takers_valued t (users r i.events), ← (seen.uses r t lo hi l (omega arith)))))

  unavailable_right : (r g : ℕ) → 1 ≤ r → r ≤ 99 → OneOf G g → Right (unavailable r g)
  unfolding unavailable_charge counted_of
  unavailable_right r g lo hi o =
      sym (one_list (truth i b) 0 0 (map atom (uses_at r (group_at i.groups g)))
      ∙ rw (deviation-zero, uses_valued r (group_at i.groups g), ← (group_used r g lo hi o)))

  split_right : (e lo hi : ℕ) → Right (split e lo hi)
  unfolding split_charge counted_of
  split_right e lo hi = sym (one_list (truth i b) lo hi (starts_at e (up_to i.times)) ∙ rw (starts_valued e (up_to i.times)))

  spread_right : (vs : List ℕ) (g lo hi : ℕ) → OneOf G g → Right (spread vs g lo hi)
  unfolding spread_charge counted_of
  spread_right vs g lo hi o =
      sym (one_list (truth i b) lo hi (flat_map (λ e. starts_at e (group_at i.groups g)) vs)
      ∙ ap (deviation lo hi)
      (trues-flat (entry_true (truth i b)) (λ e. starts_at e (group_at i.groups g)) vs
      ∙ ap (λ f. total f vs) (fun_ext (λ e. rw (starts_valued e (group_at i.groups g), group_is g o)))))

  busy_right : (r g lo hi : ℕ) → 1 ≤ r → r ≤ 99 → OneOf G g → Right (busy r g lo hi)
  unfolding busy_charge counted_of
  busy_right r g lo hi p q o =
      sym (one_limit (truth i b) lo hi (map atom (uses_at r (group_at i.groups g)))
      ∙ rw (uses_valued r (group_at i.groups g), ← (group_used r g p q o)))

  cluster_right : (r : ℕ) (hs : List ℕ) (lo hi : ℕ) → 1 ≤ r → r ≤ 99 → Ascending G 0 hs → Right (cluster r hs lo hi)
  unfolding cluster_charge counted_of
  cluster_right r hs lo hi p q a =
      sym (one_list (truth i b) lo hi (map (λ g. any_of (uses_at r (group_at i.groups g))) hs)
      ∙ ap (deviation lo hi) (some_valued r hs ∙ total-listed _ _ G a (λ g o. rw (group_used r g p q o))))

  idle_right : (r : ℕ) (hs : List ℕ) (lo hi : ℕ) → 1 ≤ r → r ≤ 99 → Ascending G 0 hs → Right (idle r hs lo hi)
  unfolding idle_charge
  idle_right r hs lo hi p q a =
      sym (idle-charged i (truth i b) 0 r hs lo hi
      ∙ ap (deviation lo hi) (total-listed _ _ G a (λ g o. rw (group_used r g p q o))))

  -- the subevents of an event, told from its bytes alone
  event_alone : (e : ℕ) (such : ℕ → Bool)
      → subevents i.times (truth i b) e such ≡ subevents_at i.times b ((e - 1) * i.times) (slots i + (e - 1) * i.times) such
  unfolding truth alone
  event_alone e such =
      subevents_same i.times (truth i b) (alone b ((e - 1) * i.times) (slots i + (e - 1) * i.times)) e 1
      (λ t. refl)
      (λ t. ap (bit b) (sym (add_assoc (slots i) ((e - 1) * i.times) t)))
      such

  held_alone : (e : ℕ) (such : ℕ → Bool)
      → times_held i.times (truth i b) e such ≡ times_held_at i.times b ((e - 1) * i.times) (slots i + (e - 1) * i.times) such
  unfolding truth alone
  held_alone e such =
      times_held_same i.times (truth i b) (alone b ((e - 1) * i.times) (slots i + (e - 1) * i.times)) e 1 such
      (λ t. refl)
      (λ t. ap (bit b) (sym (add_assoc (slots i) ((e - 1) * i.times) t)))

  -- an event that takes its duration and starts as it should is charged for the times held by subevents that start outside
  preferred_right : (e g : ℕ) → OneOf G g → event_right i (truth i b) e (event_of i.events e) ≡ true → Right (preferred e g)
  unfolding preferred_charge
  preferred_right e g o right =
      sym (times-charged i (truth i b) 0 e g right
      ∙ deviation-zero (times_held i.times (truth i b) e (outside_of (group_at i.groups g)))
      ∙ held_alone e (outside_of (group_at i.groups g))
      ∙ rw (group_is g o))

  distribute_right : (e n lo hi : ℕ) → 1 ≤ n → Right (distribute e n lo hi)
  unfolding distribute_charge
  distribute_right e n lo hi h =
      sym (distribute-counts i.times (duration_of i.events) (λ r. users r i.events) (group_at i.groups) (truth i b) e n lo hi h ∙ ap (deviation lo hi) (event_alone e (eqb n)))

  lengths_right : (e shortest longest : ℕ) → 1 ≤ shortest → Right (lengths e shortest longest)
  unfolding lengths_charge
  lengths_right e shortest longest h =
      sym (lengths-counts i.times (duration_of i.events) (λ r. users r i.events) (group_at i.groups) (truth i b) e shortest longest h
      ∙ deviation-zero (subevents i.times (truth i b) e (λ n. ltb n shortest || ltb longest n))
      ∙ event_alone e (λ n. ltb n shortest || ltb longest n))

  -- two events that each take a time are charged where the gap between them lies outside
  precedence_right : (first second lo hi : ℕ) → 1 ≤ length (times_taken i.times (truth i b) first)
      → 1 ≤ length (times_taken i.times (truth i b) second) → Right (precedence first second lo hi)
  unfolding precedence_charge truth taken_in
  precedence_right first second lo hi p q =
      sym (precedence-charged i.times (duration_of i.events) (λ r. users r i.events) (group_at i.groups) (truth i b)
      first second lo hi p q
      ∙ ap (λ t. cond t 0 1) (gap_same (truth i b) (taken_in i.times b) (λ e t. refl) i.times first second lo hi))

  -- a kind whose fields are references to what there is, in a timetable of events that last
  pub charge_right : (n : Counts) (k : Kind) → Passed i b → ((e : ℕ) → OneOf (length i.events) e → 1 ≤ duration_of i.events e)
      → n.resources ≤ 99 → n.events ≡ length i.events → n.groups ≡ G → InRange n k → Right k
  charge_right n (clash r) w d h m e v = clash_right r v.low (omega (arith, v.high))
  charge_right n (unavailable r g) w d h m e v = unavailable_right r g v.0.low (omega (arith, v.0.high)) (rw e at v.1)
  charge_right n (preferred ev g) w d h m e v = preferred_right ev g (rw e at v.1) (each_right i b ev w v.0.low (omega (arith, v.0.high)))
  charge_right n (split ev lo hi) w d h m e v = split_right ev lo hi
  charge_right n (spread vs g lo hi) w d h m e v = spread_right vs g lo hi (rw e at v.1)
  charge_right n (busy r g lo hi) w d h m e v = busy_right r g lo hi v.0.low (omega (arith, v.0.high)) (rw e at v.1)
  charge_right n (cluster r hs lo hi) w d h m e v = cluster_right r hs lo hi v.0.low (omega (arith, v.0.high)) (rw e at v.1)
  charge_right n (idle r hs lo hi) w d h m e v = idle_right r hs lo hi v.0.low (omega (arith, v.0.high)) (rw e at v.1)
  charge_right n (distribute ev l lo hi) w d h m e v = distribute_right ev l lo hi v.1.low
  charge_right n (lengths ev shortest longest) w d h m e v = lengths_right ev shortest longest v.1.low
  charge_right n (precedence first second lo hi) w d h m e v =
      precedence_right first second lo hi (takes first (rw m at v.0)) (takes second (rw m at v.1))
    where
      takes : (ev : ℕ) → OneOf (length i.events) ev → 1 ≤ length (times_taken i.times (truth i b) ev)
      takes ev o = right-taken i (truth i b) ev (event_of i.events ev) (each_right i b ev w o.low o.high) (d ev o)
