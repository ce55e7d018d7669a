-- The first and the last time that an event takes, found in its bytes: laws.
use Prim.Native.Nat.{ℕ, zero, suc, ◌+◌, ◌-◌, ◌*◌, ◌<◌, ◌≤◌}
use mathlib.Core.Path.{◌≡◌, refl, sym, ap, ◌∙◌}
use mathlib.Core.Bool.{Bool, true, false, cond}
use mathlib.Core.List.{List, [], ◌∷◌, ◌++◌, append-nil}
use lib.ListN.{length, get_or, length-append}
use lib.Seq.{get_or_at}
use lib.Dec.{eqb}
use native.Mathlib.Omega.{arith}
use native.Mathlib.Nat.{add-zero, sub-zero}
use borrow.Author.Tests.{eq-eqb, ne_eqb}
use Rattle.scope.specs.Kinds.{Atom, Y, from, up_to}
use Rattle.scope.specs.Gap.{taken_among, times_taken, first_time, last_time, gap_within}
use Rattle.timetable.proofs.laws.Bits.{bit-next, from_more, from-done}
use Rattle.deviation.specs.Gap.{taken_in}

-- of one time more, after the others
taken-last : (τ : Atom → Bool) (e n k : ℕ)
    → taken_among τ e (from n (suc k)) ≡ taken_among τ e (from n k) ++ cond (τ (Y e (n + k))) ((n + k) ∷ []) []
unfolding taken_among from
taken-last τ e n zero = rw add-zero
taken-last τ e n (suc k) =
    let m : n + suc k ≡ suc n + k = omega arith in
    rw (m, taken-last τ e (suc n) k) (by _ _ (τ (Y e n)))
  where
    by : (xs ys : List ℕ) (t : Bool) → cond t (n ∷ (xs ++ ys)) (xs ++ ys) ≡ cond t (n ∷ xs) xs ++ ys
    by xs ys true = refl
    by xs ys false = refl

module _ (T : ℕ) (b : List ℕ) (e : ℕ) where
  -- whether an event takes time i + 1
  taken_at : (i : ℕ) → taken_in T b (Y e (i + 1)) ≡ eqb (get_or b ((e - 1) * T + i) 0) 1
  unfolding taken_in
  taken_at i = bit-next b ((e - 1) * T) i

  -- a walk up: none of the first i times is taken
  pub record NoneBefore (i : ℕ) : Type 0 where
    pub left : taken_among (taken_in T b) e (from (i + 1) (T - i)) ≡ times_taken T (taken_in T b) e

  pub none_before : NoneBefore 0
  none_before = record { left = rw sub-zero }

  module _ (i : ℕ) (so_far : NoneBefore i) where
    pub none_more : i < T → (get_or b ((e - 1) * T + i) 0 ≡ 1 → ⊥) → NoneBefore (i + 1)
    unfolding taken_among
    none_more h n = record { left = rw (from_more i T h, taken_at i, ne_eqb _ _ n) at so_far.left }

    pub first_found : i < T → get_or b ((e - 1) * T + i) 0 ≡ 1 → i + 1 ≡ first_time T (taken_in T b) e
    unfolding taken_among
    first_found h t = ap (λ xs. get_or xs 0 0) (rw (from_more i T h, taken_at i, eq-eqb _ _ t) at so_far.left)

    pub first_none : T ≤ i → 0 ≡ first_time T (taken_in T b) e
    unfolding taken_among
    first_none h = ap (λ xs. get_or xs 0 0) (rw (from-done i T h) at so_far.left)

  -- a walk down: none of the times after the first k is taken
  pub record NoneAfter (k : ℕ) : Type 0 where
    pub left : taken_among (taken_in T b) e (up_to k) ≡ times_taken T (taken_in T b) e

  pub none_after : NoneAfter T
  none_after = record { left = refl }

  module _ (k : ℕ) (h : 0 < k) (so_far : NoneAfter k) where
    before_last : taken_among (taken_in T b) e (up_to (k - 1)) ++ cond (eqb (get_or b ((e - 1) * T + (k - 1)) 0) 1) (k ∷ []) []
        ≡ times_taken T (taken_in T b) e
    before_last =
        let m : suc (k - 1) ≡ k = omega arith in
        let n : 1 + (k - 1) ≡ k - 1 + 1 = omega arith in
        let l : k - 1 + 1 ≡ k = omega arith in
        sym (rw (m, n, taken_at (k - 1), l) at (taken-last (taken_in T b) e 1 (k - 1))) ∙ so_far.left

    pub none_less : (get_or b ((e - 1) * T + (k - 1)) 0 ≡ 1 → ⊥) → NoneAfter (k - 1)
    none_less n = record { left = rw (ne_eqb _ _ n, append-nil) at before_last }

    pub last_found : get_or b ((e - 1) * T + (k - 1)) 0 ≡ 1 → k ≡ last_time T (taken_in T b) e
    last_found t =
        let xs = taken_among (taken_in T b) e (up_to (k - 1)) in
        let w : xs ++ k ∷ [] ≡ times_taken T (taken_in T b) e = rw (eq-eqb _ _ t) at before_last in
        let l : length (xs ++ k ∷ []) - 1 ≡ length xs = omega (arith, length-append xs (k ∷ [])) in
        rw (l, get_or_at xs k [] 0 (length xs) refl) at (ap (λ ys. get_or ys (length ys - 1) 0) w)

  pub last_none : (k : ℕ) → k ≤ 0 → NoneAfter k → 0 ≡ last_time T (taken_in T b) e
  unfolding taken_among from
  last_none k h so_far =
      let m : k ≡ 0 = omega arith in
      ap (λ xs. get_or xs (length xs - 1) 0) (rw m at so_far.left)

-- the gap is told from the times that the two events take alone
module _ (τ σ : Atom → Bool) (same : (e t : ℕ) → τ (Y e t) ≡ σ (Y e t)) where
  taken_same : (e : ℕ) (ts : List ℕ) → taken_among τ e ts ≡ taken_among σ e ts
  unfolding taken_among
  taken_same e [] = refl
  taken_same e (t ∷ ts) = rw (same e t, taken_same e ts)

  pub gap_same : (T first second lo hi : ℕ) → gap_within T τ first second lo hi ≡ gap_within T σ first second lo hi
  unfolding gap_within
  gap_same T first second lo hi = rw (taken_same first (up_to T), taken_same second (up_to T))
