-- The size of a counted list: a counter over its literals, and the units of its bounds: laws.
use mathlib.Core.Path.{◌≡◌, refl}
use Prim.Native.Nat.{ℕ, zero, suc, ◌+◌, ◌*◌, min, ◌≤◌}
use native.Mathlib.Omega.{arith}
use Rattle.scope.specs.Formula.{columns}
use Rattle.sizing.specs.Sums.{sum, multiple}
use Rattle.sizing.proofs.laws.Sums.{equal}
use Rattle.sizing.specs.Gates.{or_size, soft_size, hard_unit, unit_size}
use Rattle.sizing.specs.Counts.{units_size, shorts_size}

-- the units, kind 6's low part and the columns as numbers, hard and soft
pub units-hard : (w k : ℕ) → w ≡ 0
    → units_size w k ≡ record { variables = 0; clauses = min 1 k; words = min 1 k; units = 0; weight = 0 }
unfolding units_size unit_size hard_unit multiple
units-hard zero k e = equal (omega arith)
units-hard (suc w) k e = let f : ⊥ = omega arith in absurd f

pub units-soft : (w k : ℕ) → 1 ≤ w
    → units_size w k ≡ record { variables = 0; clauses = 0; words = 0; units = k; weight = k * w }
unfolding units_size unit_size soft_size multiple
units-soft zero k h = let f : ⊥ = omega arith in absurd f
units-soft (suc w) k h = equal (omega arith)

pub shorts-hard : (w k : ℕ) → w ≡ 0
    → shorts_size w k ≡ record { variables = k; clauses = 4 * k; words = 8 * k; units = 0; weight = 0 }
unfolding shorts_size or_size unit_size hard_unit multiple sum
shorts-hard zero k e = equal (omega arith)
shorts-hard (suc w) k e = let f : ⊥ = omega arith in absurd f

pub shorts-soft : (w k : ℕ) → 1 ≤ w
    → shorts_size w k ≡ record { variables = k; clauses = 3 * k; words = 7 * k; units = k; weight = k * w }
unfolding shorts_size or_size unit_size soft_size multiple sum
shorts-soft zero k h = let f : ⊥ = omega arith in absurd f
shorts-soft (suc w) k h = equal (omega arith)

pub columns-hard : (w hi n : ℕ) → w ≡ 0 → columns w hi n ≡ min n (hi + 1)
columns-hard zero hi n e = refl
columns-hard (suc w) hi n e = let f : ⊥ = omega arith in absurd f

pub columns-soft : (w hi n : ℕ) → 1 ≤ w → columns w hi n ≡ n
columns-soft zero hi n h = let f : ⊥ = omega arith in absurd f
columns-soft (suc w) hi n h = refl
