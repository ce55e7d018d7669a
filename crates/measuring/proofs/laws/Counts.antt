-- The size of a counted list is that of its items.
use mathlib.Core.Path.{◌≡◌, refl, ap}
use mathlib.Core.Bool.{Bool, true, false, cond}
use mathlib.Core.List.{List, [], ◌∷◌, map}
use Prim.Native.Nat.{ℕ, zero, suc, ◌+◌, ◌-◌, ◌≤◌}
use native.Mathlib.Omega.{arith}
use lib.ListN.{length, replicate}
use lib.Dec.{leb, ltb}
use borrow.Author.Tests.{leb-true, leb-false, ltb-true, ltb-false}
use Rattle.scope.specs.Cnf.{opp, hard, soft}
use Rattle.scope.specs.Kinds.{Rule, from}
use Rattle.scope.specs.Formula.{columns, ones, low_units, high_units, short_units, bound_items, count_into, count_items}
use Rattle.laws.specs.Lists.{All}
use Rattle.theory.proofs.laws.Ranges.{length_from_lem}
use Rattle.sizing.specs.Sums.{none, sum, multiple}
use Rattle.sizing.proofs.laws.Sums.{equal, sum-assoc, multiple-zero, multiple-suc}
use Rattle.sizing.specs.Gates.{soft_size, hard_unit, unit_size}
use Rattle.sizing.specs.Counts.{units_size, shorts_size, low_size, count_size}
use Rattle.measuring.proofs.laws.Measure.{size_of, size-nil, size-gate, size-soft, size-append}
use Rattle.measuring.proofs.laws.Gates.{and-size, hard-unit, unit_size_lem}
use Rattle.measuring.proofs.laws.Rows.{Proper, weights, counter-size, counter-equal}

-- soft units of one weight
soft-units : (w : ℕ) (f : ℕ → ℕ) (js : List ℕ) → size_of (map (λ j. soft w (f j)) js) ≡ multiple (length js) (soft_size w)
soft-units w f [] = rw (size-nil, multiple-zero)
soft-units w f (j ∷ js) = rw (size-soft, soft-units w f js, multiple-suc)

-- a hard unit, if there is a column for it
one_unit : (l k : ℕ) (b : Bool) → (b ≡ true → 1 ≤ k) → (b ≡ false → k ≡ 0)
    → size_of (cond b (hard (l ∷ []) ∷ []) []) ≡ units_size 0 k
unfolding units_size unit_size hard_unit multiple none sum
one_unit l k true h z = rw (hard-unit, size-nil) (equal (omega (arith, h refl)))
one_unit l k false h z = rw size-nil (equal (omega (arith, z refl)))

-- the units of the low part, of the high part, and of kind 6's low part
pub low-units : (w : ℕ) (q : ℕ → ℕ) (lo : ℕ) → size_of (low_units w q lo) ≡ units_size w lo
unfolding low_units units_size unit_size
low-units zero q lo = one_unit (q lo) lo (leb 1 lo) (leb-true 1 lo) (λ e. omega (arith, leb-false 1 lo e))
low-units (suc w) q lo = rw (length_from_lem 1 lo) at (soft-units (suc w) q (from 1 lo))

pub high-units : (w : ℕ) (q : ℕ → ℕ) (hi n : ℕ) → size_of (high_units w q hi n) ≡ units_size w (n - hi)
unfolding high_units units_size unit_size
high-units zero q hi n =
    one_unit (opp (q (hi + 1))) (n - hi) (ltb hi n) (λ e. omega (arith, ltb-true hi n e)) (λ e. omega (arith, ltb-false hi n e))
high-units (suc w) q hi n =
    rw (length_from_lem (hi + 1) (n - hi)) at (soft-units (suc w) (λ j. opp (q j)) (from (hi + 1) (n - hi)))

pub short-units : (w : ℕ) (q : ℕ → ℕ) (j k v : ℕ) → size_of (short_units w q j k v) ≡ shorts_size w k
unfolding short_units shorts_size
short-units w q j zero v = rw (size-nil, multiple-zero)
short-units w q j (suc k) v =
    rw (size-gate, and-size, unit_size_lem w, short-units w q (suc j) k (suc v), multiple-suc, sum-assoc)

low-size : (w lo : ℕ) (q : ℕ → ℕ) (v : ℕ) (zero_free : Bool)
    → size_of (cond zero_free (short_units w q 2 (lo - 1) v) (low_units w q lo)) ≡ low_size w lo zero_free
unfolding low_size
low-size w lo q v true = short-units w q 2 (lo - 1) v
low-size w lo q v false = low-units w q lo

-- the units of a rule's bounds
pub bounds-size : (w : ℕ) (r : Rule) (q : ℕ → ℕ) (n v : ℕ)
    → size_of (bound_items w r q n v) ≡ sum (low_size w r.lo r.zero_free) (units_size w (n - r.hi))
unfolding bound_items
bounds-size w r q n v = rw (size-append, low-size w r.lo q v r.zero_free, high-units)

-- the literals of a counted list, which are no constants, have the weight 1
ones-proper : (xs : List ℕ) → All (λ x. 2 ≤ x) xs → Proper (ones xs)
ones-proper [] p = tt
ones-proper (x ∷ xs) p = (p.0, ones-proper xs p.1)

ones-weights : (xs : List ℕ) → weights (ones xs) ≡ replicate (length xs) 1
ones-weights [] = refl
ones-weights (x ∷ xs) = ap (λ ws. 1 ∷ ws) (ones-weights xs)

-- the size of a counted list's items, which its length alone decides
pub count-size : (w : ℕ) (r : Rule) (xs : List ℕ) (v : ℕ) → 1 ≤ v → All (λ x. 2 ≤ x) xs
    → size_of (count_items w r xs v) ≡ count_size w r.lo r.hi r.zero_free (length xs)
unfolding count_into count_size
count-size w r xs v h p =
    let cols = columns w r.hi (length xs) in
    let rows = counter-size cols (ones xs) v h (ones-proper xs p) in
    rw (size-append, rows, ones-weights, counter-equal, bounds-size w r)
