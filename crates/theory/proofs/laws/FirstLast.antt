-- The first and the last of the times that an event takes: it takes both, and none before the first or after the last.
use mathlib.Core.Path.{◌≡◌, refl, ap}
use mathlib.Core.Bool.{Bool, true, false, cond}
use mathlib.Core.List.{List, [], ◌∷◌, map}
use mathlib.Core.Logic.{⊎_elim}
use Prim.Native.Nat.{ℕ, zero, suc, ◌+◌, ◌-◌, ◌≤◌, ◌<◌}
use native.Mathlib.Nat.{eq-or-lt_of_le}
use native.Mathlib.Omega.{arith}
use lib.ListN.{length, get_or}
use Rattle.scope.specs.Kinds.{Atom, Y, Event, from, up_to}
use Rattle.scope.specs.Instance.{Instance}
use Rattle.scope.specs.Score.{trues, event_right}
use Rattle.scope.specs.Gap.{taken_among, times_taken}
use Rattle.theory.proofs.laws.Held.{right-takes}

module _ (τ : Atom → Bool) (e : ℕ) where
  -- of k times from n on
  pub record IsFirst (n k f : ℕ) : Type 0 where
    pub low : n ≤ f
    pub high : f < n + k
    pub takes : τ (Y e f) ≡ true
    pub none : (t : ℕ) → n ≤ t → t < f → τ (Y e t) ≡ false

  pub record IsLast (n k l : ℕ) : Type 0 where
    pub low : n ≤ l
    pub high : l < n + k
    pub takes : τ (Y e l) ≡ true
    pub none : (t : ℕ) → l < t → t < n + k → τ (Y e t) ≡ false

  abbrev taken : ℕ → ℕ → List ℕ
  taken n k = taken_among τ e (from n k)

  -- as many times are listed as are taken
  pub taken_count : (ts : List ℕ) → length (taken_among τ e ts) ≡ trues (map (λ t. τ (Y e t)) ts)
  unfolding taken_among trues
  taken_count [] = refl
  taken_count (t ∷ ts) = go (τ (Y e t)) (taken_count ts)
    where
      go : (b : Bool) → length (taken_among τ e ts) ≡ trues (map (λ t. τ (Y e t)) ts)
          → length (cond b (t ∷ taken_among τ e ts) (taken_among τ e ts)) ≡ cond b 1 0 + trues (map (λ t. τ (Y e t)) ts)
      go true h = omega (arith, h)
      go false h = omega (arith, h)

  -- time n, and those after it
  at_or_after : (n t : ℕ) (b : Bool) → n ≤ t → τ (Y e n) ≡ b → (n < t → τ (Y e t) ≡ b) → τ (Y e t) ≡ b
  at_or_after n t b l q later = ⊎_elim (λ (s : n ≡ t). rw s at q) (λ (m : n < t). later m) (eq-or-lt_of_le l)

  pub first_of : (n k : ℕ) → 1 ≤ length (taken n k) → IsFirst n k (get_or (taken n k) 0 0)
  unfolding taken_among from
  first_of n zero h = let f : ⊥ = omega arith in absurd f
  first_of n (suc k) h = go (τ (Y e n)) refl (first_of (suc n) k) h
    where
      go : (b : Bool) → τ (Y e n) ≡ b → (1 ≤ length (taken (suc n) k) → IsFirst (suc n) k (get_or (taken (suc n) k) 0 0))
          → 1 ≤ length (cond b (n ∷ taken (suc n) k) (taken (suc n) k))
          → IsFirst n (suc k) (get_or (cond b (n ∷ taken (suc n) k) (taken (suc n) k)) 0 0)
      go true q ih h =
          record { low = omega arith; high = omega arith; takes = q; none = λ t l m. let f : ⊥ = omega arith in absurd f }
      go false q ih h =
          let r = ih h in
          record {
            low = omega (arith, r.low);
            high = omega (arith, r.high);
            takes = r.takes;
            none = λ t l m. at_or_after n t false l q (λ s. r.none t (omega arith) m);
          }

  -- where none is listed, none is taken
  none_taken : (n k t : ℕ) → taken n k ≡ [] → n ≤ t → t < n + k → τ (Y e t) ≡ false
  unfolding taken_among from
  none_taken n zero t z l m = let f : ⊥ = omega arith in absurd f
  none_taken n (suc k) t z l m = go (τ (Y e n)) refl (none_taken (suc n) k t) z l m
    where
      go : (b : Bool) → τ (Y e n) ≡ b → (taken (suc n) k ≡ [] → suc n ≤ t → t < suc n + k → τ (Y e t) ≡ false)
          → cond b (n ∷ taken (suc n) k) (taken (suc n) k) ≡ [] → n ≤ t → t < n + suc k → τ (Y e t) ≡ false
      go true q ih z l m = let f : ⊥ = omega (arith, ap length z) in absurd f
      go false q ih z l m = at_or_after n t false l q (λ s. ih z (omega arith) (omega arith))

  pub last_of : (n k : ℕ) → 1 ≤ length (taken n k) → IsLast n k (get_or (taken n k) (length (taken n k) - 1) 0)
  unfolding taken_among from
  last_of n zero h = let f : ⊥ = omega arith in absurd f
  last_of n (suc k) h = go (τ (Y e n)) refl (taken (suc n) k) refl (last_of (suc n) k) h
    where
      later : (l : ℕ) → IsLast (suc n) k l → IsLast n (suc k) l
      later l r =
          record {
            low = omega (arith, r.low);
            high = omega (arith, r.high);
            takes = r.takes;
            none = λ t a b. r.none t a (omega arith);
          }

      go : (b : Bool) → τ (Y e n) ≡ b → (ts : List ℕ) → taken (suc n) k ≡ ts
          → (1 ≤ length (taken (suc n) k) → IsLast (suc n) k (get_or (taken (suc n) k) (length (taken (suc n) k) - 1) 0))
          → 1 ≤ length (cond b (n ∷ ts) ts)
          → IsLast n (suc k) (get_or (cond b (n ∷ ts) ts) (length (cond b (n ∷ ts) ts) - 1) 0)
      go true q [] z ih h =
          record { low = omega arith; high = omega arith; takes = q; none = λ t l m. none_taken (suc n) k t z l (omega arith) }
      go true q (u ∷ us) z ih h =
          let p : suc (suc (length us)) - 1 ≡ suc (length us) = omega arith in
          let s : suc (length us) - 1 ≡ length us = omega arith in
          rw p (later (get_or (u ∷ us) (length us) 0) (rw s at (rw z at (ih (rw z (omega arith))))))
      go false q ts z ih h = later (get_or ts (length ts - 1) 0) (rw z at (ih (rw z h)))

-- an event of a timetable that lasts takes a time
pub right-taken : (i : Instance) (τ : Atom → Bool) (e : ℕ) (v : Event) → event_right i τ e v ≡ true → 1 ≤ v.duration
    → 1 ≤ length (times_taken i.times τ e)
right-taken i τ e v h l = omega (arith, taken_count τ e (up_to i.times), (right-takes i τ e v h).0)
