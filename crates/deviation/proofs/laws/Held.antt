-- The times that subevents of one event hold, counted from the first time to the last: laws.
use Prim.Native.Nat.{ℕ, zero, suc, ◌+◌, ◌-◌, ◌<◌, ◌≤◌}
use mathlib.Core.Path.{◌≡◌, refl, ap, fun_ext}
use mathlib.Core.Bool.{Bool, true, false, cond, not, ◌&&◌, ◌||◌}
use mathlib.Core.List.{List, ◌∷◌, map}
use lib.ListN.{length, get_or, set, drop, drop_of_length-le}
use lib.Seq.{drop-cons, get_or-set_same, get_or-set_other}
use lib.Dec.{eqb}
use native.Mathlib.Omega.{arith}
use native.Mathlib.Nat.{add-zero, zero-add, add_assoc, sub-zero}
use native.Mathlib.Numerals.{add-one}
use borrow.Author.Tests.{le-leb, eqb-true, eqb-false}
use Rattle.scope.specs.Cnf.{bit}
use Rattle.scope.specs.Kinds.{Atom, Y, S, from, up_to, member}
use Rattle.scope.specs.Score.{trues}
use Rattle.scope.specs.Subevents.{held_from, times_held}
use Rattle.timetable.proofs.laws.Bits.{from_more, from-done}
use Rattle.deviation.specs.Subevents.{alone}
use Rattle.deviation.specs.Held.{times_held_at, outside_of, Flaggable, Flagged}

-- flags that were 1, once those of k members of a row are 0: with the members left they come to the flags of the times outside it
pub record Cleared (row : List ℕ) (k : ℕ) (flags : List ℕ) : Type 0 where
  pub each : (t : ℕ) → t < 126 → cond (member t (drop k row)) 0 (get_or flags t 0) ≡ cond (outside_of row t) 1 0

cond-zero : (t : Bool) → ◌≡◌ {A = ℕ} (cond t 0 0) 0
cond-zero true = refl
cond-zero false = refl

pub cleared-none : (row flags : List ℕ) → Flaggable row flags → Cleared row 0 flags
cleared-none row flags f = record { each = λ t h. rw (f.ones t h) (by (member t row)) }
  where
    by : (m : Bool) → ◌≡◌ {A = ℕ} (cond m 0 1) (cond (not m) 1 0)
    by true = refl
    by false = refl

pub cleared_more : (row : List ℕ) (k : ℕ) (flags : List ℕ) (x : ℕ) → Cleared row k flags → k < length row → x ≡ get_or row k 0
    → x < length flags → Cleared row (k + 1) (set flags x 0)
unfolding member
cleared_more row k flags x so_far h e l =
    let next : drop k row ≡ x ∷ drop (k + 1) row = rw (drop-cons row k 0 h, ← e, add-one k) in
    record { each = λ t m. by t (eqb t x) refl (rw next at (so_far.each t m)) }
  where
    by : (t : ℕ) (same : Bool) → eqb t x ≡ same
        → cond (eqb t x || member t (drop (k + 1) row)) 0 (get_or flags t 0) ≡ cond (outside_of row t) 1 0
        → cond (member t (drop (k + 1) row)) 0 (get_or (set flags x 0) t 0) ≡ cond (outside_of row t) 1 0
    by t true p before =
        let q : t ≡ x = eqb-true t x p in
        let z : get_or (set flags x 0) t 0 ≡ 0 = rw q (get_or-set_same flags x 0 0 l) in
        rw (z, cond-zero (member t (drop (k + 1) row))) (rw p at before)
    by t false p before =
        rw (get_or-set_other flags x t 0 0 (eqb-false t x p)) (rw p at before)

pub cleared-all : (row : List ℕ) (k : ℕ) (flags : List ℕ) → Cleared row k flags → length row ≤ k → Flagged (outside_of row) flags
unfolding member
cleared-all row k flags so_far h = record { each = λ t l. rw (drop_of_length-le row h) at (so_far.each t l) }

-- what a walk over n times has counted once i were passed
module _ (n : ℕ) (b : List ℕ) (y s : ℕ) (such : ℕ → Bool) where
  pub record Counted (i count held : ℕ) : Type 0 where
    pub last : held ≡ cond (held_from n (alone b y s) 1 such i) 1 0
    pub left : count + trues (map (held_from n (alone b y s) 1 such) (from (i + 1) (n - i))) ≡ times_held_at n b y s such

  pub counted_start : Counted 0 0 0
  unfolding held_from times_held
  counted_start = record { last = refl; left = rw (sub-zero, zero-add) }

  -- the next time, whether a subevent that starts at such a time holds it
  held_next : (i held flag next : ℕ) → i < n → held ≡ cond (held_from n (alone b y s) 1 such i) 1 0 → flag ≡ cond (such (i + 1)) 1 0
      → next ≡ cond (eqb (get_or b (y + i) 0) 1) (cond (eqb (get_or b (s + i) 0) 1) flag held) 0
      → next ≡ cond (held_from n (alone b y s) 1 such (i + 1)) 1 0
  unfolding held_from alone bit
  held_next i held flag next h last f e =
      let p : y + suc i ≡ suc (y + i) = omega arith in
      let q : s + suc i ≡ suc (s + i) = omega arith in
      let k : i + 1 ≡ suc i = add-one i in
      rw (k, le-leb (suc i) n h, p, q) (by (eqb (get_or b (y + i) 0) 1) (eqb (get_or b (s + i) 0) 1) (rw (last, f, k) at e))
    where
      by : (t u : Bool)
          → next ≡ cond t (cond u (cond (such (suc i)) 1 0) (cond (held_from n (alone b y s) 1 such i) 1 0)) 0
          → next ≡ cond (t && cond u (such (suc i)) (held_from n (alone b y s) 1 such i)) 1 0
      by true true e = e
      by true false e = e
      by false u e = e

  pub counted_more : (i count held flag next : ℕ) → i < n → Counted i count held → flag ≡ cond (such (i + 1)) 1 0
      → next ≡ cond (eqb (get_or b (y + i) 0) 1) (cond (eqb (get_or b (s + i) 0) 1) flag held) 0 → Counted (i + 1) (count + next) next
  unfolding trues
  counted_more i count held flag next h so_far f e =
      let last = held_next i held flag next h so_far.last f e in
      record { last = last; left = rw (add_assoc, last) (rw (from_more i n h) at so_far.left) }

  pub counted_end : (i count held : ℕ) → n ≤ i → Counted i count held → count ≡ times_held_at n b y s such
  unfolding trues
  counted_end i count held h so_far = rw (from-done i n h, add-zero) at so_far.left

-- the times held are told from the event's Y and S alone
module _ (T : ℕ) (τ σ : Atom → Bool) (e f : ℕ) (such : ℕ → Bool) (takes : (t : ℕ) → τ (Y e t) ≡ σ (Y f t)) (starts : (t : ℕ) → τ (S e t) ≡ σ (S f t)) where
  held_same : (t : ℕ) → held_from T τ e such t ≡ held_from T σ f such t
  unfolding held_from
  held_same zero = refl
  held_same (suc t) = rw (takes (suc t), starts (suc t), held_same t)

  pub times_held_same : times_held T τ e such ≡ times_held T σ f such
  unfolding times_held
  times_held_same = ap (λ g. trues (map g (up_to T))) (fun_ext held_same)
