-- A size put together from the results of calls is the size that is asked for.
use mathlib.Core.Path.{◌≡◌, refl}
use mathlib.Core.Bool.{Bool, true, false}
use Prim.Native.Nat.{ℕ, zero, suc, ◌-◌, ◌*◌, ◌≤◌}
use native.Mathlib.Nat.{mul-le-mul}
use native.Mathlib.Omega.{arith}
use borrow.Author.Tests.{eq-eqb, ne_eqb}
use Rattle.scope.specs.Formula.{columns}
use Rattle.sizing.specs.declared.Size.{Size}
use Rattle.sizing.specs.Sums.{none, sum, multiple, Within, Fits64}
use Rattle.sizing.proofs.laws.Sums.{within_more, within-sum, within-multiple}
use Rattle.sizing.specs.Gates.{hard_unit}
use Rattle.sizing.specs.Rows.{first_row, later_row, equal_rows}
use Rattle.sizing.specs.Tail.{tail_add}
use Rattle.sizing.specs.Counts.{units_size, shorts_size, low_size, count_size}
use Rattle.sizing.proofs.laws.Limits.{fits-multiple, first-within, later-within, rows-within, units-within, low-within}

-- k later rows, and rows together, have numbers of 64 bits
pub later-fits : (cols k w : ℕ) {later : Size} → cols ≤ 4096 → k ≤ 32768 → later ≡ later_row cols w → Fits64 (multiple k later)
later-fits cols k w h j e = rw e (fits-multiple k (11 * cols) (later_row cols w) (omega arith) (omega arith) (later-within cols w))

-- later rows that follow what has come to at most 2 ^ 62
pub more-fits : (cols k w : ℕ) {s later more : Size} → cols ≤ 4096 → k ≤ 32768 → Within 4611686018427387904 s
    → later ≡ later_row cols w → more ≡ multiple k later → Fits64 (sum s more)
more-fits cols k w {s} {later} {more} h j v e f =
    let c : 11 * cols ≤ 45056 = omega arith in
    let m : Within 1476395008 more =
    rw (f, e) (within_more (omega (arith, mul-le-mul j c)) (within-multiple k (11 * cols) (later_row cols w) (later-within cols w))) in
    within_more (omega arith) (within-sum 4611686018427387904 1476395008 s more v m)

pub first_fits : (cols k w : ℕ) {first later rest : Size} → cols ≤ 4096 → k ≤ 32768 → first ≡ first_row cols w
    → later ≡ later_row cols w → rest ≡ multiple k later → Fits64 (sum first rest)
first_fits cols k w {first} {later} {rest} h j e f g =
    let v : Within 4611686018427387904 first = rw e (within_more (omega arith) (first-within cols w)) in
    more-fits cols k w h j v f g

-- a counter and a unit
pub unit-fits : (cols n w : ℕ) {rows unit : Size} → cols ≤ 4096 → n ≤ 32768 → rows ≡ equal_rows cols n w → unit ≡ hard_unit
    → Fits64 (sum rows unit)
unit-fits cols n w {rows} {unit} h j e f =
    let c : 11 * cols ≤ 45056 = omega arith in
    let v : Within 1476395008 rows = rw e (within_more (omega (arith, mul-le-mul j c)) (rows-within cols n w)) in
    let u : Within 1 unit = rw f (unfold hard_unit in omega arith) in
    within_more (omega arith) (within-sum 1476395008 1 rows unit v u)

-- the bounds of a counted list, and the counted list
pub bounds-fit : (w lo : ℕ) (free : Bool) (above : ℕ) {low high : Size} → w ≤ 1000 → lo ≤ 255 → above ≤ 255
    → low ≡ low_size w lo free → high ≡ units_size w above → Within 510000 (sum low high)
bounds-fit w lo free above {low} {high} h j k e f =
    let v : Within 255000 low = rw e (low-within w lo free h j) in
    let u : Within 255000 high = rw f (units-within w above h k) in
    within-sum 255000 255000 low high v u

pub count_fits : (cols n : ℕ) {rows bounds : Size} → cols ≤ 255 → n ≤ 255 → rows ≡ equal_rows cols n 1 → Within 510000 bounds
    → Fits64 (sum rows bounds)
count_fits cols n {rows} {bounds} h j e u =
    let c : 11 * cols ≤ 2805 = omega arith in
    let v : Within 715275 rows = rw e (within_more (omega (arith, mul-le-mul j c)) (rows-within cols n 1)) in
    within_more (omega arith) (within-sum 715275 510000 rows bounds v u)

-- of no rows, and of a first row and later ones
pub rows_none : (cols n w : ℕ) → n ≡ 0 → {r : Size} → r ≡ none → r ≡ equal_rows cols n w
unfolding equal_rows
rows_none cols zero w e q = q
rows_none cols (suc n) w e q = let f : ⊥ = omega arith in absurd f

pub rows-some : (cols n w : ℕ) → 1 ≤ n → {first later rest r : Size} → first ≡ first_row cols w → later ≡ later_row cols w
    → rest ≡ multiple (n - 1) later → r ≡ sum first rest → r ≡ equal_rows cols n w
unfolding equal_rows
rows-some cols zero w h e f g q = let z : ⊥ = omega arith in absurd z
rows-some cols (suc n) w h {first} {later} {rest} {r} e f g q =
    let k : suc n - 1 ≡ n = omega arith in
    let m : rest ≡ multiple n later = rw k at g in
    cc

-- of a tail with no unit more, with its first units, and with more
pub tail-same : (cols : ℕ) (s : Size) (n w : ℕ) → n ≡ 0 → s ≡ tail_add cols s n w
unfolding tail_add
tail-same cols s zero w e = refl
tail-same cols s (suc n) w e = let f : ⊥ = omega arith in absurd f

pub tail-first : (cols : ℕ) (s : Size) (n w : ℕ) → 1 ≤ n → s.variables ≡ 0 → {rows unit r : Size}
    → rows ≡ equal_rows cols n w → unit ≡ hard_unit → r ≡ sum rows unit → r ≡ tail_add cols s n w
unfolding tail_add
tail-first cols s zero w h z e f q = let g : ⊥ = omega arith in absurd g
tail-first cols s (suc n) w h z {rows} {unit} {r} e f q = rw (eq-eqb s.variables 0 z) (cc)

pub tail_more : (cols : ℕ) (s : Size) (n w : ℕ) → 1 ≤ n → 1 ≤ s.variables → {later more r : Size}
    → later ≡ later_row cols w → more ≡ multiple n later → r ≡ sum s more → r ≡ tail_add cols s n w
unfolding tail_add
tail_more cols s zero w h z e f q = let g : ⊥ = omega arith in absurd g
tail_more cols s (suc n) w h z {later} {more} {r} e f q = rw (ne_eqb s.variables 0 (λ y. omega arith)) (cc)

-- of the low part of kind 6 and of the others
pub low_free : (w lo : ℕ) (free : Bool) (k : ℕ) → free ≡ true → k ≡ lo - 1 → {r : Size} → r ≡ shorts_size w k
    → r ≡ low_size w lo free
unfolding low_size
low_free w lo free k t e q = rw (t, ← e) q

pub low-plain : (w lo : ℕ) (free : Bool) → free ≡ false → {r : Size} → r ≡ units_size w lo → r ≡ low_size w lo free
unfolding low_size
low-plain w lo free t q = rw t q

-- of a counter and its bounds
pub counted : (w lo hi : ℕ) (free : Bool) (n cols above : ℕ) {rows low high bounds r : Size} → cols ≡ columns w hi n
    → above ≡ n - hi → rows ≡ equal_rows cols n 1 → low ≡ low_size w lo free → high ≡ units_size w above
    → bounds ≡ sum low high → r ≡ sum rows bounds → r ≡ count_size w lo hi free n
unfolding count_size
counted w lo hi free n cols above a b e f g h q = cc
