-- The subevents of one event, counted from the last time to the first: laws.
use Prim.Native.Nat.{ℕ, zero, suc, ◌+◌, ◌-◌, ◌<◌, ◌≤◌}
use mathlib.Core.Path.{◌≡◌, refl, ap, fun_ext, ◌∙◌}
use mathlib.Core.Bool.{Bool, true, false, cond, not, ◌&&◌, ◌||◌}
use mathlib.Core.List.{List, map}
use lib.ListN.{get_or}
use lib.Dec.{ltb, eqb}
use native.Mathlib.Omega.{arith}
use native.Mathlib.Nat.{sub-zero}
use borrow.Author.Tests.{le-leb, lt-leb, le-ltb, ltb-false, eqb-true, eqb-false}
use Rattle.scope.specs.Cnf.{bit}
use Rattle.scope.specs.Kinds.{Atom, Y, S, from, up_to}
use Rattle.scope.specs.Score.{trues}
use Rattle.scope.specs.Subevents.{before, length_from, subevents}
use Rattle.deviation.specs.declared.subevents.Runs.{Runs}
use Rattle.deviation.specs.Subevents.{alone, subevents_at, is_wanted, runs_by}

-- what a turn makes of the run and of the count
run_by : (t s u : Bool) (w : Runs) → (runs_by t s u w).run ≡ cond (not t || s) 0 (suc w.run)
run_by true true true w = refl
run_by true true false w = refl
run_by true false u w = omega arith
run_by false true true w = refl
run_by false true false w = refl
run_by false false u w = refl

count_by : (t s u : Bool) (w : Runs) → (runs_by t s u w).count ≡ cond (s && u) 1 0 + w.count
count_by t true true w = omega arith
count_by t true false w = omega arith
count_by true false u w = omega arith
count_by false false u w = omega arith

module _ (T : ℕ) (b : List ℕ) (y s : ℕ) (such : ℕ → Bool) where
  -- what a walk has found once only some times are left, the first ones
  pub record Walked (left : ℕ) (w : Runs) : Type 0 where
    pub run : w.run ≡ before T (alone b y s) 1 (suc left) (T + 1 - left)
    pub count : w.count ≡ trues (map (λ t. alone b y s (S 1 t) && such (length_from T (alone b y s) 1 t)) (from (suc left) (T - left)))

  -- all times are left: the time after the last one is not taken
  pub walk_start : Walked T (record { count = 0; run = 0 })
  unfolding before from trues
  walk_start =
      let e : T + 1 - T ≡ 1 = omega arith in
      let f : T - T ≡ 0 = omega arith in
      record { run = rw (e, lt-leb (suc T) T (omega arith)); count = rw f }

  -- one time further back
  pub walk_more : (left : ℕ) (w v : Runs) → 0 < left → left ≤ T → Walked left w
      → v ≡ runs_by (eqb (get_or b (y + (left - 1)) 0) 1) (eqb (get_or b (s + (left - 1)) 0) 1) (such (w.run + 1)) w → Walked (left - 1) v
  unfolding before from trues alone bit
  walk_more zero w v h l so_far r = let f : ⊥ = omega arith in absurd f
  walk_more (suc k) w v h l so_far r =
      let d : suc k - 1 ≡ k = omega arith in
      let e : T + 1 - k ≡ suc (T + 1 - suc k) = omega arith in
      let f : T - k ≡ suc (T - suc k) = omega arith in
      let p : y + suc k ≡ suc (y + k) = omega arith in
      let q : s + suc k ≡ suc (s + k) = omega arith in
      let m : w.run + 1 ≡ suc w.run = omega arith in
      let v-is = rw (d, m) at r in
      record {
        run =
            rw (d, e, le-leb (suc k) T l, p, q, ← so_far.run)
            (ap (λ x. x.run) v-is ∙ run_by (eqb (get_or b (y + k) 0) 1) (eqb (get_or b (s + k) 0) 1) (such (suc w.run)) w);
        count =
            rw (d, f, q, ← so_far.run, ← so_far.count)
            (ap (λ x. x.count) v-is ∙ count_by (eqb (get_or b (y + k) 0) 1) (eqb (get_or b (s + k) 0) 1) (such (suc w.run)) w);
      }

  -- no time is left
  pub walk_end : (left : ℕ) (w : Runs) → left ≤ 0 → Walked left w → w.count ≡ subevents_at T b y s such
  unfolding subevents
  walk_end left w h so_far = let e : left ≡ 0 = omega arith in rw (e, sub-zero) at so_far.count

-- one length is wanted; those outside two are
pub wanted-one : (n : ℕ) → is_wanted (record { from = n; to = n; outside = false }) ≡ eqb n
wanted-one n = fun_ext (λ m. by m (eqb n m) refl)
  where
    by : (m : ℕ) (t : Bool) → eqb n m ≡ t → cond (ltb m n || ltb n m) false true ≡ t
    by m true e = let s = eqb-true n m e in rw (le-ltb m n (omega arith), le-ltb n m (omega arith))
    by m false e = apart (ltb m n) (ltb n m) refl refl
      where
        apart : (t u : Bool) → ltb m n ≡ t → ltb n m ≡ u → cond (t || u) false true ≡ false
        apart true u p q = refl
        apart false true p q = refl
        apart false false p q = let a : n ≤ m = ltb-false m n p in let b : m ≤ n = ltb-false n m q in absurd (eqb-false n m e (omega arith))

pub wanted-outside : (a b : ℕ) → is_wanted (record { from = a; to = b; outside = true }) ≡ (λ n. ltb n a || ltb b n)
wanted-outside a b = fun_ext (λ n. itself (ltb n a || ltb b n))
  where
    itself : (t : Bool) → cond t true false ≡ t
    itself true = refl
    itself false = refl

-- the subevents are told from the event's Y and S alone
module _ (T : ℕ) (τ σ : Atom → Bool) (e f : ℕ) (takes : (t : ℕ) → τ (Y e t) ≡ σ (Y f t)) (starts : (t : ℕ) → τ (S e t) ≡ σ (S f t)) where
  before_same : (t k : ℕ) → before T τ e t k ≡ before T σ f t k
  unfolding before
  before_same t zero = refl
  before_same t (suc k) = rw (takes t, starts t, before_same (suc t) k)

  pub subevents_same : (such : ℕ → Bool) → subevents T τ e such ≡ subevents T σ f such
  unfolding subevents
  subevents_same such =
      ap (λ g. trues (map g (up_to T))) (fun_ext (λ t. rw (starts t, before_same (suc t) (T + 1 - t))))
