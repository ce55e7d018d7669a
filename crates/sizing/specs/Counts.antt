-- The size of a counted list: a counter over its literals, and the units of its bounds.
use Rattle.std.specs.Prelude.{Bool, true, false, ℕ, zero, suc, ◌-◌, min}
use Rattle.scope.specs.Formula.{columns}
use Rattle.sizing.specs.declared.Size.{Size}
use Rattle.sizing.specs.Sums.{sum, multiple}
use Rattle.sizing.specs.Gates.{or_size, unit_size}
use Rattle.sizing.specs.Rows.{equal_rows}

-- how many units of the weight w stand for k columns: hard, one stands for all
abbrev pub unit_count : ℕ → ℕ → ℕ
unit_count zero k = min 1 k
unit_count (suc w) k = k

-- the units of the weight w for k columns
unfoldable pub units_size : ℕ → ℕ → Size
units_size w k = multiple (unit_count w k) (unit_size w)

-- k times a variable of kind 6 and its unit
unfoldable pub shorts_size : ℕ → ℕ → Size
shorts_size w k = multiple k (sum (or_size 2) (unit_size w))

-- the low part of a rule
unfoldable pub low_size : ℕ → ℕ → Bool → Size
low_size w lo true = shorts_size w (lo - 1)
low_size w lo false = units_size w lo

-- a counted list of n literals between lo and hi, where the weight 0 means hard
unfoldable pub count_size : ℕ → ℕ → ℕ → Bool → ℕ → Size
count_size w lo hi zero_free n =
    sum (equal_rows (columns w hi n) n 1) (sum (low_size w lo zero_free) (units_size w (n - hi)))

-- the same with hi as written, which is lowered to n
unfoldable pub list_size : ℕ → ℕ → ℕ → Bool → ℕ → Size
list_size w lo hi zero_free n = count_size w lo (min hi n) zero_free n
