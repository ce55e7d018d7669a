-- How large sizes are at most, so that none of their sums wraps.
use mathlib.Core.Path.{◌≡◌, refl}
use mathlib.Core.Bool.{Bool, true, false, cond}
use Prim.Native.Nat.{ℕ, zero, suc, ◌+◌, ◌-◌, ◌*◌, min, ◌≤◌}
use native.Mathlib.Nat.{mul-le-mul}
use native.Mathlib.Omega.{arith}
use lib.Dec.{eqb}
use Rattle.scope.specs.Formula.{columns}
use Rattle.sizing.specs.declared.Size.{Size}
use Rattle.sizing.specs.Sums.{none, sum, multiple, Within, Fits64}
use Rattle.sizing.proofs.laws.Sums.{within_more, within-sum, within-multiple}
use Rattle.sizing.specs.Gates.{or_size, hard_unit}
use Rattle.sizing.specs.Rows.{first_row, later_row, equal_rows}
use Rattle.sizing.specs.Tail.{tail_add}
use Rattle.sizing.specs.Counts.{units_size, shorts_size, low_size, count_size, list_size}
use Rattle.sizing.proofs.laws.Counts.{units-hard, units-soft, shorts-hard, shorts-soft}
use Rattle.sizing.specs.NodeSizes.{node_sizes}
use Rattle.sizing.specs.Blocks.{start_clauses, starts_size}

-- numbers of 32 bits multiplied, and of 63 bits added, have 64
pub fits-multiple : (k m : ℕ) (a : Size) → k ≤ 4294967295 → m ≤ 4294967295 → Within m a → Fits64 (multiple k a)
fits-multiple k m a h j w = within_more (omega (arith, mul-le-mul h j)) (within-multiple k m a w)

-- an OR
pub or-within : (n : ℕ) → n ≤ 1024 → Within 3073 (or_size n)
unfolding or_size
or-within n h = omega arith

-- rows
pub first-within : (cols w : ℕ) → Within (11 * cols) (first_row cols w)
unfolding first_row
first-within cols w = omega arith

pub later-within : (cols w : ℕ) → Within (11 * cols) (later_row cols w)
unfolding later_row
later-within cols w = omega arith

pub rows-within : (cols n w : ℕ) → Within (n * (11 * cols)) (equal_rows cols n w)
unfolding equal_rows none
rows-within cols zero w = omega arith
rows-within cols (suc n) w =
    within_more (omega arith)
    (within-sum (11 * cols) (n * (11 * cols)) (first_row cols w) (multiple n (later_row cols w)) (first-within cols w)
    (within-multiple n (11 * cols) (later_row cols w) (later-within cols w)))

-- counted lists: a counter has at most as many columns as literals
pub columns-within : (w hi n : ℕ) → columns w hi n ≤ n
columns-within zero hi n = omega arith
columns-within (suc w) hi n = omega arith

-- the units of bounds
pub units-within : (w k : ℕ) → w ≤ 1000 → k ≤ 255 → Within 255000 (units_size w k)
units-within zero k h j = rw (units-hard 0 k refl) (omega arith)
units-within (suc w) k h j = rw (units-soft (suc w) k (omega arith)) (omega (arith, mul-le-mul j h))

pub shorts-within : (w k : ℕ) → w ≤ 1000 → k ≤ 255 → Within 255000 (shorts_size w k)
shorts-within zero k h j = rw (shorts-hard 0 k refl) (omega arith)
shorts-within (suc w) k h j = rw (shorts-soft (suc w) k (omega arith)) (omega (arith, mul-le-mul j h))

pub low-within : (w lo : ℕ) (free : Bool) → w ≤ 1000 → lo ≤ 255 → Within 255000 (low_size w lo free)
unfolding low_size
low-within w lo true h j = shorts-within w (lo - 1) h (omega arith)
low-within w lo false h j = units-within w lo h j

-- a counted list
pub count-within : (w lo hi : ℕ) (free : Bool) (n : ℕ) → w ≤ 1000 → lo ≤ 255 → n ≤ 255
    → Within 1225275 (count_size w lo hi free n)
unfolding count_size
count-within w lo hi free n h j k =
    let cols = columns w hi n in
    let c : 11 * cols ≤ 2805 = omega (arith, columns-within w hi n) in
    let rows : Within 715275 (equal_rows cols n 1) = within_more (omega (arith, mul-le-mul k c)) (rows-within cols n 1) in
    let high = units-within w (n - hi) h (omega arith) in
    within_more (omega arith)
    (within-sum 715275 510000 (equal_rows cols n 1) (sum (low_size w lo free) (units_size w (n - hi))) rows
    (within-sum 255000 255000 (low_size w lo free) (units_size w (n - hi)) (low-within w lo free h j) high))

-- a counter has no soft units, and a counted list no more than members
pub rows-units : (cols n w : ℕ) → (equal_rows cols n w).units ≡ 0
unfolding equal_rows none sum multiple first_row later_row
rows-units cols zero w = refl
rows-units cols (suc n) w = omega arith

units-most : (w k : ℕ) → (units_size w k).units ≤ k
units-most zero k = rw (units-hard 0 k refl) (omega arith)
units-most (suc w) k = rw (units-soft (suc w) k (omega arith)) (omega arith)

low-most : (w lo : ℕ) (free : Bool) → (low_size w lo free).units ≤ lo
unfolding low_size
low-most zero lo true = rw (shorts-hard 0 (lo - 1) refl) (omega arith)
low-most (suc w) lo true = rw (shorts-soft (suc w) (lo - 1) (omega arith)) (omega arith)
low-most w lo false = units-most w lo

count_most : (w lo hi : ℕ) (free : Bool) (n : ℕ) → lo ≤ hi → hi ≤ n → (count_size w lo hi free n).units ≤ n
unfolding count_size sum
count_most w lo hi free n h j =
    omega (arith, rows-units (columns w hi n) n 1, low-most w lo free, units-most w (n - hi))

-- the same with hi as written
pub list-within : (w lo hi : ℕ) (free : Bool) (n : ℕ) → w ≤ 1000 → lo ≤ 255 → n ≤ 255
    → Within 1225275 (list_size w lo hi free n)
unfolding list_size
list-within w lo hi free n h j k = count-within w lo (min hi n) free n h j k

pub list-most : (w lo hi : ℕ) (free : Bool) (n : ℕ) → lo ≤ hi → lo ≤ n → (list_size w lo hi free n).units ≤ n
unfolding list_size
list-most w lo hi free n h l = count_most w lo (min hi n) free n (omega arith) (omega arith)

-- the nodes of a list, at most 32,768 with 65,536 inputs; and with them its counted list
pub nodes-within : (n k : ℕ) → n ≤ 32768 → k ≤ 65536 → Within 229376 (node_sizes n k)
unfolding node_sizes
nodes-within n k h j = omega arith

module _ (w lo hi : ℕ) (free : Bool) (n nodes inputs : ℕ) (short : n ≤ 255) (low : lo ≤ n) where
  pub listed_within : w ≤ 1000 → nodes ≤ 32768 → inputs ≤ 65536
      → Within 1454651 (sum (node_sizes nodes inputs) (list_size w lo hi free n))
  listed_within h j k =
      within-sum 229376 1225275 (node_sizes nodes inputs) (list_size w lo hi free n) (nodes-within nodes inputs j k)
      (list-within w lo hi free n h (omega arith) short)

  pub listed_most : lo ≤ hi → (sum (node_sizes nodes inputs) (list_size w lo hi free n)).units ≤ 255
  unfolding sum node_sizes
  listed_most h = omega (arith, list-most w lo hi free n h low)

-- the tail grows by at most 2 ^ 31 with each constraint
pub tail_within : (m cols : ℕ) (s : Size) (n w : ℕ) → cols ≤ 4096 → n ≤ 32768 → Within m s
    → Within (m + 2147483648) (tail_add cols s n w)
unfolding tail_add
tail_within m cols s zero w h j v = within_more (omega arith) v
tail_within m cols s (suc n) w h j v = go (eqb s.variables 0)
  where
    few : suc n * (11 * cols) ≤ 1476395008
    few = let c : 11 * cols ≤ 45056 = omega arith in omega (arith, mul-le-mul j c)

    unit : Within 1 hard_unit
    unit = unfold hard_unit in omega arith

    go : (b : Bool)
        → Within (m + 2147483648) (cond b (sum (equal_rows cols (suc n) w) hard_unit) (sum s (multiple (suc n) (later_row cols w))))
    go true =
        within_more (omega (arith, few))
        (within-sum (suc n * (11 * cols)) 1 (equal_rows cols (suc n) w) hard_unit (rows-within cols (suc n) w) unit)
    go false =
        within_more (omega (arith, few))
        (within-sum m (suc n * (11 * cols)) s (multiple (suc n) (later_row cols w)) v
        (within-multiple (suc n) (11 * cols) (later_row cols w) (later-within cols w)))

-- Y and S of up to 1,024 events at up to 125 times, X of resources, and durations
pub starts-within : (E T : ℕ) → E ≤ 1024 → T ≤ 125 → Within 640000 (starts_size E T)
unfolding starts_size start_clauses sum multiple
starts-within E T h j =
    let k : 5 * T - 1 ≤ 625 = omega arith in
    omega (arith, mul-le-mul h j, mul-le-mul h k)
