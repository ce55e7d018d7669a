-- Sizes with at most 385 words for each variable, and some more.
use mathlib.Core.Path.{refl}
use mathlib.Core.Bool.{Bool, true, false, cond}
use Prim.Native.Nat.{ℕ, zero, suc, ◌+◌, ◌-◌, ◌*◌, ◌≤◌}
use native.Mathlib.Nat.{mul-le-mul_left}
use native.Mathlib.Omega.{arith}
use lib.Dec.{eqb}
use Rattle.scope.specs.Formula.{columns}
use Rattle.sizing.specs.declared.Size.{Size}
use Rattle.sizing.specs.Sums.{none, sum, multiple, Within}
use Rattle.sizing.specs.Gates.{hard_unit}
use Rattle.sizing.specs.Rows.{first_row, later_row, equal_rows}
use Rattle.sizing.specs.NodeSizes.{node_sizes}
use Rattle.sizing.specs.Tail.{tail_add}
use Rattle.sizing.specs.Counts.{units_size, shorts_size, low_size, count_size}
use Rattle.sizing.proofs.laws.Counts.{units-hard, units-soft, shorts-hard, shorts-soft}

pub record Lean (extra : ℕ) (z : Size) : Type 0 where
  pub few : z.words ≤ 385 * z.variables + extra

pub lean-more : {a b : ℕ} {z : Size} → a ≤ b → Lean a z → Lean b z
lean-more h l = record { few = omega (arith, l.few) }

pub lean-none : Lean 0 none
unfolding none
lean-none = record { few = omega arith }

pub lean-sum : {a b : ℕ} {x y : Size} → Lean a x → Lean b y → Lean (a + b) (sum x y)
unfolding sum
lean-sum l m = record { few = omega (arith, l.few, m.few) }

pub lean-within : {m : ℕ} {z : Size} → Within m z → Lean m z
lean-within w = record { few = omega (arith, w.words) }

lean-multiple : (k : ℕ) (z : Size) → Lean 0 z → Lean 0 (multiple k z)
unfolding multiple
lean-multiple k z l = record { few = omega (arith, mul-le-mul_left k l.few) }

-- counters
first-lean : (cols w : ℕ) → Lean 0 (first_row cols w)
unfolding first_row
first-lean cols w = record { few = omega arith }

later-lean : (cols w : ℕ) → Lean 0 (later_row cols w)
unfolding later_row
later-lean cols w = record { few = omega arith }

rows-lean : (cols n w : ℕ) → Lean 0 (equal_rows cols n w)
unfolding equal_rows
rows-lean cols zero w = lean-none
rows-lean cols (suc n) w = lean-sum (first-lean cols w) (lean-multiple n (later_row cols w) (later-lean cols w))

-- bounds
units-lean : (w k : ℕ) → Lean 1 (units_size w k)
units-lean zero k = rw (units-hard 0 k refl) (record { few = omega arith })
units-lean (suc w) k = rw (units-soft (suc w) k (omega arith)) (record { few = omega arith })

shorts-lean : (w k : ℕ) → Lean 0 (shorts_size w k)
shorts-lean zero k = rw (shorts-hard 0 k refl) (record { few = omega arith })
shorts-lean (suc w) k = rw (shorts-soft (suc w) k (omega arith)) (record { few = omega arith })

low-lean : (w lo : ℕ) (free : Bool) → Lean 1 (low_size w lo free)
unfolding low_size
low-lean w lo true = lean-more (omega arith) (shorts-lean w (lo - 1))
low-lean w lo false = units-lean w lo

pub count-lean : (w lo hi : ℕ) (free : Bool) (n : ℕ) → Lean 2 (count_size w lo hi free n)
unfolding count_size
count-lean w lo hi free n =
    lean-sum (rows-lean (columns w hi n) n 1) (lean-sum (low-lean w lo free) (units-lean w (n - hi)))

-- nodes
pub nodes-lean : (n k : ℕ) → k ≤ 128 * n → Lean 0 (node_sizes n k)
unfolding node_sizes
nodes-lean n k h = record { few = omega arith }

-- the tail
unit-lean : Lean 1 hard_unit
unfolding hard_unit
unit-lean = record { few = omega arith }

pub tail-lean : (cols : ℕ) (s : Size) (n w : ℕ) → Lean 1 s → Lean 1 (tail_add cols s n w)
unfolding tail_add
tail-lean cols s zero w l = l
tail-lean cols s (suc n) w l = go (eqb s.variables 0)
  where
    go : (t : Bool) → Lean 1 (cond t (sum (equal_rows cols (suc n) w) hard_unit) (sum s (multiple (suc n) (later_row cols w))))
    go true = lean-sum (rows-lean cols (suc n) w) unit-lean
    go false = lean-sum l (lean-multiple (suc n) (later_row cols w) (later-lean cols w))
