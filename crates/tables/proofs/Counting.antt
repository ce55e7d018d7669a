-- Counting the members of rows, one by one.
use Prim.Native.Nat.{ℕ, zero, suc, ◌+◌, ◌*◌, ◌≤◌, ◌<◌}
use mathlib.Core.Path.{◌≡◌, refl, sym, ◌∙◌}
use mathlib.Core.List.{List, [], ◌∷◌, ◌++◌}
use mathlib.Core.Bool.{Bool, true, false, cond}
use native.Mathlib.Omega.{arith}
use native.Mathlib.Numerals.{add-one}
use borrow.Author.Tests.{eqb-true, eqb-false}
use lib.Dec.{eqb}
use lib.ListN.{length, get_or, take, set, length-take}
use lib.Seq.{take-suc, take_all, get_or-set_same, get_or-set_other}
use Rattle.tables.specs.Rows.{row_at, rows, RowsIn}
use Rattle.tables.specs.Occurrences.{occurrences, occurrences_in, Counted}
use Rattle.tables.proofs.laws.Occurrences.{occurrences_in-more}

-- no more than there are members
occurrences-most : (x : ℕ) (l : List ℕ) → occurrences x l ≤ length l
unfolding occurrences
occurrences-most x [] = omega arith
occurrences-most x (y ∷ ys) = by (eqb x y) (occurrences-most x ys)
  where
    by : (t : Bool) → occurrences x ys ≤ length ys → cond t 1 0 + occurrences x ys ≤ suc (length ys)
    by true h = omega arith
    by false h = omega arith

occurrences_in-most : (x : ℕ) (t : List ℕ) (n : ℕ) → ((g : ℕ) → g < n → length (row_at t g) ≤ 125) → occurrences_in x (rows t n) ≤ 125 * n
unfolding rows occurrences_in
occurrences_in-most x t zero h = omega arith
occurrences_in-most x t (suc n) h =
    omega (
      arith,
      occurrences_in-most x t n (λ g k. h g (omega arith)),
      occurrences_in-more x (rows t n) (row_at t n),
      occurrences-most x (row_at t n),
      h n (omega arith),
    )

-- one member more
occurrences-last : (x y : ℕ) (l : List ℕ) → occurrences x (l ++ (y ∷ [])) ≡ occurrences x l + cond (eqb x y) 1 0
unfolding occurrences
occurrences-last x y [] = omega arith
occurrences-last x y (z ∷ l) = omega (arith, occurrences-last x y l)

-- counts[x] is how often x stands in the first g rows and among the first k members of row g
pub record CountedTo (t : List ℕ) (g k : ℕ) (counts : List ℕ) : Type 0 where
  pub each : (x : ℕ) → get_or counts x 0 ≡ occurrences_in x (rows t g) + occurrences x (take k (row_at t g))

pub counted_start : (t : List ℕ) (g : ℕ) (counts : List ℕ) → Counted t g counts → CountedTo t g 0 counts
unfolding occurrences
counted_start t g counts c = record { each = λ x. omega (arith, c.each x) }

put_one : (t : Bool) (counts : List ℕ) (x y : ℕ)
    → eqb x y ≡ t
    → y < length counts
    → get_or (set counts y (get_or counts y 0 + 1)) x 0 ≡ get_or counts x 0 + cond t 1 0
put_one true counts x y e h = rw (eqb-true x y e) (get_or-set_same counts y (get_or counts y 0 + 1) 0 h)
put_one false counts x y e h =
    get_or-set_other counts y x (get_or counts y 0 + 1) 0 (λ p. eqb-false x y e p) ∙ omega arith

pub counted_more : (t : List ℕ) (g k y : ℕ) (counts : List ℕ)
    → CountedTo t g k counts
    → k < length (row_at t g)
    → y ≡ get_or (row_at t g) k 0
    → y < length counts
    → CountedTo t g (k + 1) (set counts y (get_or counts y 0 + 1))
counted_more t g k y counts c h e l =
    record {
      each =
          λ x.
          rw (add-one k, take-suc (row_at t g) k 0 h, ← e)
          (omega (arith, put_one (eqb x y) counts x y refl l, occurrences-last x y (take k (row_at t g)), c.each x));
    }

pub counted_end : (t : List ℕ) (g k : ℕ) (counts : List ℕ) → CountedTo t g k counts → length (row_at t g) ≤ k → Counted t (g + 1) counts
unfolding rows
counted_end t g k counts c h =
    record {
      each =
          λ x.
          rw (add-one g)
          (c.each x ∙ rw (take_all k (row_at t g) h) (sym (occurrences_in-more x (rows t g) (row_at t g))));
    }

-- a count stays small
pub counted-small : (t : List ℕ) (g k x : ℕ) (counts : List ℕ) → CountedTo t g k counts → RowsIn t (g + 1) → get_or counts x 0 ≤ 125 * g + k
counted-small t g k x counts c h =
    omega (
      arith,
      c.each x,
      occurrences_in-most x t g (λ i l. (h.each i (omega arith)).count),
      occurrences-most x (take k (row_at t g)),
      length-take k (row_at t g),
    )
