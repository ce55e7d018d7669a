-- Passing through the times and through an ascending row together.
use Prim.Native.Nat.{ℕ, ◌+◌, ◌≤◌, ◌<◌}
use mathlib.Core.Path.{◌≡◌, refl, sym, ◌∙◌}
use mathlib.Core.Bool.{Bool, true, false, cond}
use mathlib.Core.List.{List, [], ◌∷◌}
use native.Mathlib.Omega.{arith}
use borrow.Author.Tests.{eq-eqb, ne_eqb, eqb-true, eqb-false}
use lib.Dec.{eqb}
use lib.ListN.{drop}
use lib.Seq.{drop-drop}
use Rattle.scope.specs.Kinds.{member}
use Rattle.parsing.specs.Numbers.{Ascending, none, more}
use Rattle.literals.specs.Words.{Indicator, starts_with}

-- an ascending list has no member up to where it starts
below : (x n before : ℕ) (l : List ℕ) → Ascending n before l → x ≤ before → member x l ≡ false
unfolding member
below x n before [] none h = refl
below x n before (y ∷ ys) (more a b r) h = rw (ne_eqb x y (λ p. omega arith), below x n y ys r (omega arith))

-- what is left of a row whose members are above t, once time t + 1 is passed
record Left (n t : ℕ) (l : List ℕ) : Type 0 where
  here : member (t + 1) l ≡ starts_with (t + 1) l
  above : Ascending n (t + 1) (drop (cond (starts_with (t + 1) l) 1 0) l)
  later : (x : ℕ) → t + 1 < x → member x l ≡ member x (drop (cond (starts_with (t + 1) l) 1 0) l)

passing : (n t : ℕ) (l : List ℕ) → Ascending n t l → Left n t l
unfolding member starts_with
passing n t [] none = record { here = refl; above = none; later = λ x h. refl }
passing n t (y ∷ ys) (more a b r) = by (eqb y (t + 1)) refl
  where
    by : (c : Bool) → eqb y (t + 1) ≡ c → Left n t (y ∷ ys)
    by true e =
        let k : y ≡ t + 1 = eqb-true y (t + 1) e in
        record {
          here = rw (e, eq-eqb (t + 1) y (sym k));
          above = rw (e, ← k) r;
          later = λ x h. rw (e, ne_eqb x y (λ p. omega arith));
        }
    by false e =
        let k : y ≡ t + 1 → ⊥ = eqb-false y (t + 1) e in
        record {
          here = rw (e, ne_eqb (t + 1) y (λ p. k (sym p)), below (t + 1) n y ys r (omega arith));
          above = rw e (more {before = t + 1} {x = y} (omega arith) b r);
          later = λ x h. rw e;
        }

-- of an ascending row, member k is the first above time t
pub record Passed (n : ℕ) (row : List ℕ) (k t : ℕ) : Type 0 where
  pub above : Ascending n t (drop k row)
  pub later : (x : ℕ) → t < x → member x row ≡ member x (drop k row)

pub passed_none : (n : ℕ) (row : List ℕ) → Ascending n 0 row → Passed n row 0 0
passed_none n row a = record { above = a; later = λ x h. refl }

module _ {n : ℕ} {row : List ℕ} {k t : ℕ} (p : Passed n row k t) where
  -- time t + 1 is in the row where member k is it
  pub passed_here : member (t + 1) row ≡ starts_with (t + 1) (drop k row)
  passed_here = p.later (t + 1) (omega arith) ∙ (passing n t (drop k row) p.above).here

  -- and it is passed
  pub passed_more : {h : ℕ} → Indicator (starts_with (t + 1) (drop k row)) h → Passed n row (k + h) (t + 1)
  passed_more o =
      let l = passing n t (drop k row) p.above in
      rw o.is
      (record {
        above = rw drop-drop at l.above;
        later = λ x h. p.later x (omega arith) ∙ rw drop-drop at (l.later x h);
      })
