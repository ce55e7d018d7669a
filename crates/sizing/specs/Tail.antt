-- The size of the tail as it grows.
use Rattle.std.specs.Prelude.{cond, ℕ, zero, suc, eqb}
use Rattle.sizing.specs.declared.Size.{Size}
use Rattle.sizing.specs.Sums.{sum, multiple}
use Rattle.sizing.specs.Gates.{hard_unit}
use Rattle.sizing.specs.Rows.{later_row, equal_rows}

-- the tail of the size s with n soft units of the weight w more, at its end
unfoldable pub tail_add : ℕ → Size → ℕ → ℕ → Size
tail_add cols s zero w = s
tail_add cols s (suc n) w =
    cond (eqb s.variables 0) (sum (equal_rows cols (suc n) w) hard_unit) (sum s (multiple (suc n) (later_row cols w)))
