-- Which events of a timetable are right, told from its bytes: an event's "taken" bytes begin at an offset y, its "starts" bytes
-- as far after the slots, c. Score.antt's event_right and first_wrong come to the same: laws.
use Prim.Native.Nat.{ℕ, zero, suc, ◌+◌, ◌-◌, ◌*◌, ◌<◌, ◌≤◌}
use mathlib.Core.Path.{◌≡◌, refl, sym, fun_ext, ◌∙◌}
use mathlib.Core.Bool.{Bool, true, false, not, ◌&&◌, ◌||◌, cond}
use mathlib.Core.List.{List, [], ◌∷◌, map}
use mathlib.Core.Option.{Option, none, some}
use lib.ListN.{length, get_or}
use lib.Dec.{eqb}
use native.Mathlib.Omega.{arith}
use native.Mathlib.Nat.{sub-zero, add-zero, zero-add, add_assoc}
use borrow.Author.Tests.{not-true, not-false, eq-eqb, ne_eqb}
use Rattle.scope.specs.Cnf.{bit}
use Rattle.scope.specs.Kinds.{Event, Atom, from, up_to, event_of}
use Rattle.scope.specs.Instance.{Instance}
use Rattle.scope.specs.Score.{trues, all, truth, slots, start_right, event_right, first_wrong}
use Rattle.resource_uses.specs.Bits.{marks}
use Rattle.resource_uses.proofs.laws.Bits.{bit-next, from_more, from-done}
use Rattle.timetable.specs.Right.{before_at, start_at, event_at, wrong_from, no_event, Lasts, Passed}

-- the turns of a walk over n times of an event that has found no wrong start before time i + 1
module _ (b : List ℕ) (c y n : ℕ) where
  pub starts_start : all (map (start_at b c y) (from 1 (n - 0))) ≡ all (map (start_at b c y) (up_to n))
  starts_start = rw sub-zero

  module _ (i : ℕ) where
    pub before_next : eqb (get_or b (y + i) 0) 1 ≡ before_at b y (i + 1 + 1)
    before_next =
        let k : i + 1 + 1 ≡ suc (suc i) = omega arith in
        let l : suc i ≡ i + 1 = omega arith in
        rw (k, l) (sym (bit-next b y i))

    start_next : (before r : Bool) → before ≡ before_at b y (i + 1)
        → r ≡ (not (eqb (get_or b (c + (y + i)) 0) 1) || eqb (get_or b (y + i) 0) 1)
        && (not (eqb (get_or b (y + i) 0) 1) || before || eqb (get_or b (c + (y + i)) 0) 1)
        → start_at b c y (i + 1) ≡ r
    unfolding start_at
    start_next before r e f =
        let k : c + (y + (i + 1)) ≡ c + (y + i) + 1 = omega arith in
        let l : bit b (c + (y + (i + 1))) ≡ eqb (get_or b (c + (y + i)) 0) 1 = rw (k, add_assoc) (bit-next b c (y + i)) in
        rw (f, e, bit-next b y i, l)

    module _ (whole : Bool) (so_far : all (map (start_at b c y) (from (i + 1) (n - i))) ≡ whole) where
      module _ (before r : Bool) (h : i < n) (e : before ≡ before_at b y (i + 1))
          (f : r ≡ (not (eqb (get_or b (c + (y + i)) 0) 1) || eqb (get_or b (y + i) 0) 1)
          && (not (eqb (get_or b (y + i) 0) 1) || before || eqb (get_or b (c + (y + i)) 0) 1)) where
        pub starts_more : r ≡ true → all (map (start_at b c y) (from (i + 1 + 1) (n - (i + 1)))) ≡ whole
        unfolding all
        starts_more t = rw (from_more i n h, start_next before r e f, t) at so_far

        pub starts_wrong : r ≡ false → false ≡ whole
        unfolding all
        starts_wrong t = rw (from_more i n h, start_next before r e f, t) at so_far

      pub starts_end : n ≤ i → true ≡ whole
      unfolding all
      starts_end h = rw (from-done i n h) at so_far

pub ruleset walking = (starts_start, before_next, starts_more, starts_wrong, starts_end, not-true, not-false)

-- the turns of a walk over n events that has found none before event e
module _ (b d : List ℕ) (c t n e : ℕ) (whole : Option ℕ) (so_far : whole ≡ wrong_from b d c t e (n - e)) where
  wrong_next : e < n → whole ≡ cond (event_at b c (e * t) t (get_or d e 0)) (wrong_from b d c t (e + 1) (n - (e + 1))) (some (e + 1))
  unfolding wrong_from
  wrong_next h =
      let k : n - e ≡ suc (n - (e + 1)) = omega arith in
      let l : suc e ≡ e + 1 = omega arith in
      so_far ∙ rw (k, l)

  module _ (r : Bool) (h : e < n) (f : r ≡ event_at b c (e * t) t (get_or d e 0)) where
    pub wrong_more : r ≡ true → whole ≡ wrong_from b d c t (e + 1) (n - (e + 1))
    wrong_more g = wrong_next h ∙ rw (← f, g)

    pub wrong_found : r ≡ false → some (e + 1) ≡ whole
    wrong_found g = sym (wrong_next h ∙ rw (← f, g))

  pub wrong_end : n ≤ e → none ≡ whole
  unfolding wrong_from
  wrong_end h = let k : n - e ≡ 0 = omega arith in sym (so_far ∙ rw k)

pub wrong_start : (b d : List ℕ) (c t n : ℕ) → wrong_from b d c t 0 n ≡ wrong_from b d c t 0 (n - 0)
wrong_start b d c t n = rw sub-zero

pub ruleset passing = (wrong_start, wrong_more, wrong_found, wrong_end, not-true, not-false)

-- the same as the definitions, for an instance with these durations
start-same : (i : Instance) (b : List ℕ) (e t : ℕ)
    → start_right i (truth i b) (suc e) t ≡ start_at b (slots i) (e * i.times) t
unfolding truth start_at
start-same i b e zero = let k : suc e - 1 ≡ e = omega arith in rw k
start-same i b e (suc zero) = let k : suc e - 1 ≡ e = omega arith in rw k
start-same i b e (suc (suc t)) = let k : suc e - 1 ≡ e = omega arith in rw k

right-same : (i : Instance) (b : List ℕ) (e : ℕ) (v : Event)
    → event_right i (truth i b) (suc e) v ≡ event_at b (slots i) (e * i.times) i.times v.duration
unfolding event_right truth event_at
right-same i b e v =
    let k : suc e - 1 ≡ e = omega arith in
    let f : start_right i (truth i b) (suc e) ≡ start_at b (slots i) (e * i.times) = fun_ext (start-same i b e) in
    simp (k, f)

wrong-same : (i : Instance) (b d : List ℕ) (e : ℕ) (vs : List Event)
    → ((k : ℕ) → k < length vs → (get_or vs k no_event).duration ≡ get_or d (e + k) 0)
    → first_wrong i (truth i b) (suc e) vs ≡ wrong_from b d (slots i) i.times e (length vs)
unfolding first_wrong wrong_from
wrong-same i b d e [] h = refl
wrong-same i b d e (v ∷ vs) h =
    let f : v.duration ≡ get_or d e 0 = rw add-zero at (h 0 (omega arith)) in
    let g : (k : ℕ) → k < length vs → (get_or vs k no_event).duration ≡ get_or d (suc e + k) 0 =
    λ k l. let m : e + suc k ≡ suc e + k = omega arith in rw m at (h (suc k) (omega arith)) in
    rw (right-same i b e v, f, wrong-same i b d (suc e) vs g)

pub wrong-event : (i : Instance) (b d : List ℕ) (T n : ℕ) → Lasts i T n d
    → first_wrong i (truth i b) 1 i.events ≡ wrong_from b d (n * T) T 0 n
wrong-event i b d T n l =
    rw (← l.times, ← l.count)
    (wrong-same i b d 0 i.events (λ k h. rw zero-add (l.durations k (rw l.count at h))))

-- what the count and the walk of an event make of it
module _ (b : List ℕ) (c y n d count : ℕ) (counted : count ≡ trues (marks b y (up_to n))) where
  pub event_short : (count ≡ d → ⊥) → false ≡ event_at b c y n d
  unfolding event_at
  event_short h = rw (← counted, ne_eqb count d h)

  pub event_whole : (r : Bool) → count ≡ d → r ≡ all (map (start_at b c y) (up_to n)) → r ≡ event_at b c y n d
  unfolding event_at
  event_whole r h e = rw (← counted, eq-eqb count d h) e

pub ruleset events = (event_short, event_whole)

-- where no event is wrong, each is right
right-from : (i : Instance) (τ : Atom → Bool) (e : ℕ) (vs : List Event) → first_wrong i τ e vs ≡ none
    → (k : ℕ) → k < length vs → event_right i τ (e + k) (get_or vs k no_event) ≡ true
unfolding first_wrong
right-from i τ e [] w k h = let f : ⊥ = omega arith in absurd f
right-from i τ e (v ∷ vs) w k h = by (λ u. right-from i τ (suc e) vs u) (event_right i τ e v) refl w k h
  where
    by : (first_wrong i τ (suc e) vs ≡ none → (k : ℕ) → k < length vs → event_right i τ (suc e + k) (get_or vs k no_event) ≡ true)
        → (t : Bool) → event_right i τ e v ≡ t → cond t (first_wrong i τ (suc e) vs) (some e) ≡ none
        → (k : ℕ) → k < suc (length vs) → event_right i τ (e + k) (get_or (v ∷ vs) k no_event) ≡ true
    by later true r u zero h = rw add-zero r
    by later true r u (suc k) h = let m : e + suc k ≡ suc e + k = omega arith in rw m (later u k (omega arith))
    by later false r u k h = cc

pub each_right : (i : Instance) (b : List ℕ) (e : ℕ) → Passed i b → 1 ≤ e → e ≤ length i.events
    → event_right i (truth i b) e (event_of i.events e) ≡ true
each_right i b e p lo hi =
    let k : 1 + (e - 1) ≡ e = omega arith in
    rw k at (right-from i (truth i b) 1 i.events p.right (e - 1) (omega arith))
