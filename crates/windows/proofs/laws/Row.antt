-- The row of a window, filled period by period: laws.
use Prim.Native.Nat.{ℕ, zero, suc, ◌+◌, ◌-◌, ◌≤◌, ◌<◌}
use mathlib.Core.Path.{◌≡◌, refl, sym, ap, ◌∙◌}
use mathlib.Core.Bool.{Bool, true, false, cond}
use mathlib.Core.List.{List, [], ◌∷◌, ◌++◌, append_assoc, append-nil}
use lib.ListN.{length, get_or, take, drop, set, replicate, length-set, drop_of_length-le}
use native.Mathlib.Omega.{arith}
use Rattle.std.proofs.lemmas.List.{take_more_set, take-set}
use Rattle.std.proofs.Common.{Option, Some, None}
use Rattle.scope.specs.Calendar.{Period as Span, shown}
use Rattle.tables.specs.Rows.{row_of}
use Rattle.table_lists.proofs.laws.Writing.{row_of-count}
use Rattle.calendar.specs.declared.days.Period.{Period}
use Rattle.calendar.specs.Rows.{numbered, day_row}
use Rattle.windows.specs.Window.{fits, in_window}

-- what the rest of a day shows, from period k on
pub window-step : (from to : ℕ) (day : List (Option Period)) (k : ℕ) {p : Period} → k < length day → get_or day k None ≡ Some p
    → in_window from to (drop k day)
    ≡ cond (fits from to p) (p.time ∷ in_window from to (drop (k + 1) day)) (in_window from to (drop (k + 1) day))
unfolding in_window
window-step from to [] k h e = let f : ⊥ = omega arith in absurd f
window-step from to (o ∷ ps) zero h e = rw e
window-step from to (o ∷ ps) (suc k) h e =
    let n : suc k + 1 ≡ suc (k + 1) = omega arith in rw n (window-step from to ps k (omega arith) e)

pub window_pass : (from to : ℕ) (day : List (Option Period)) (k : ℕ) → k < length day → get_or day k None ≡ None
    → in_window from to (drop k day) ≡ in_window from to (drop (k + 1) day)
unfolding in_window
window_pass from to [] k h e = let f : ⊥ = omega arith in absurd f
window_pass from to (o ∷ ps) zero h e = rw e
window_pass from to (o ∷ ps) (suc k) h e =
    let n : suc k + 1 ≡ suc (k + 1) = omega arith in rw n (window_pass from to ps k (omega arith) e)

-- a row of which n members are written, so that those of the window that come from period k on are left
pub record Shown (from to : ℕ) (day : List (Option Period)) (row : List ℕ) (n k : ℕ) : Type 0 where
  pub few : n ≤ k
  pub long : length row ≡ 126
  pub so_far : in_window from to day ≡ take n (drop 1 row) ++ in_window from to (drop k day)

-- by the test, where v is the time of period k
shown_by_lem : (b : Bool) (from to : ℕ) (day : List (Option Period)) (row : List ℕ) (n k v : ℕ) → Shown from to day row n k → k < 24
    → in_window from to (drop k day) ≡ cond b (v ∷ in_window from to (drop (k + 1) day)) (in_window from to (drop (k + 1) day))
    → Shown from to day (set row (1 + n) v) (n + cond b 1 0) (k + 1)
shown_by_lem b from to day [] n k v s h e = let f : ⊥ = omega (arith, s.long) in absurd f
shown_by_lem true from to day (c ∷ row) n k v s h e =
    let q : 1 + n ≡ suc n = omega arith in
    rw q
    (record {
      few = omega (arith, s.few);
      long = length-set (c ∷ row) (suc n) v ∙ s.long;
      so_far =
          s.so_far
          ∙ rw (e, take_more_set row n v (omega (arith, s.long, s.few))) (sym (append_assoc (take n row) (v ∷ []) (in_window from to (drop (k + 1) day))));
    })
shown_by_lem false from to day (c ∷ row) n k v s h e =
    let q : 1 + n ≡ suc n = omega arith in
    let z : n + 0 ≡ n = omega arith in
    rw (q, z)
    (record {
      few = omega (arith, s.few);
      long = length-set (c ∷ row) (suc n) v ∙ s.long;
      so_far = s.so_far ∙ rw (e, take-set row n v);
    })

module _ (from to : ℕ) (day : List (Option Period)) where
  pub shown_start : {row : List ℕ} → length row ≡ 126 → Shown from to day row 0 0
  shown_start l = record { few = omega arith; long = l; so_far = refl }

  module _ {row : List ℕ} {n k : ℕ} (s : Shown from to day row n k) (l : length day ≡ 24) (h : k < 24) where
    pub shown_more : {p : Period} → get_or day k None ≡ Some p
        → Shown from to day (set row (1 + n) p.time) (n + cond (fits from to p) 1 0) (k + 1)
    shown_more {p} e = shown_by_lem (fits from to p) from to day row n k p.time s h (window-step from to day k (omega arith) e)

    pub shown_pass : get_or day k None ≡ None → Shown from to day row n (k + 1)
    shown_pass e =
        record { few = omega (arith, s.few); long = s.long; so_far = s.so_far ∙ rw (window_pass from to day k (omega arith) e) }

  pub shown_done : {row : List ℕ} {n k : ℕ} → Shown from to day row n k → length day ≡ 24 → k ≡ 24 → n ≤ 24
      → row_of (set row 0 n) ≡ in_window from to day
  unfolding in_window
  shown_done {row} {n} {k} s l e h = done row s
    where
      past : drop k day ≡ []
      past = let h : length day ≤ k = omega arith in drop_of_length-le day h

      done : (row : List ℕ) → Shown from to day row n k → row_of (set row 0 n) ≡ in_window from to day
      done [] s = let f : ⊥ = omega (arith, s.long) in absurd f
      done (c ∷ row) s =
          row_of-count (n ∷ row) n refl (omega (arith, s.long))
          ∙ sym (s.so_far ∙ rw past (append-nil (take n row)))

-- a row of the calendar shows what the definition says of its day
pub numbered-shown : (from to t : ℕ) (ps : List Span) → in_window from to (numbered t ps) ≡ shown from to t ps
unfolding in_window numbered shown
numbered-shown from to t [] = refl
numbered-shown from to t (p ∷ ps) = rw (numbered-shown from to (suc t) ps)

blanks-shown : (from to m : ℕ) → in_window from to (replicate m None) ≡ []
unfolding in_window
blanks-shown from to zero = refl
blanks-shown from to (suc m) = blanks-shown from to m

shown-append : (from to : ℕ) (xs ys : List (Option Period)) → in_window from to (xs ++ ys) ≡ in_window from to xs ++ in_window from to ys
unfolding in_window
shown-append from to [] ys = refl
shown-append from to (None ∷ xs) ys = shown-append from to xs ys
shown-append from to (Some x ∷ xs) ys = by (fits from to x) (shown-append from to xs ys)
  where
    by : (b : Bool) → in_window from to (xs ++ ys) ≡ in_window from to xs ++ in_window from to ys
        → cond b (x.time ∷ in_window from to (xs ++ ys)) (in_window from to (xs ++ ys))
        ≡ cond b (x.time ∷ in_window from to xs) (in_window from to xs) ++ in_window from to ys
    by true e = ap (λ zs. x.time ∷ zs) e
    by false e = e

pub row-shown : (from to t : ℕ) (ps : List Span) → in_window from to (day_row t ps) ≡ shown from to t ps
unfolding day_row
row-shown from to t ps =
    shown-append from to (numbered t ps) _ ∙ rw (numbered-shown from to t ps, blanks-shown from to (24 - length ps)) (append-nil (shown from to t ps))
