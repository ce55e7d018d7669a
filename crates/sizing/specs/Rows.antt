-- The sizes of a counter's rows, for a literal of one weight and a number of columns.
use Rattle.std.specs.Prelude.{ℕ, zero, suc, ◌+◌, ◌-◌, ◌*◌, min}
use Rattle.sizing.specs.declared.Size.{Size}
use Rattle.sizing.specs.Sums.{none, sum, multiple}

-- a row of cols columns for a literal of the weight w: the first row of a counter, and a later one
unfoldable pub first_row : ℕ → ℕ → Size
first_row cols w = record { variables = cols; clauses = 2 * cols; words = 3 * cols + min cols w; units = 0; weight = 0 }

unfoldable pub later_row : ℕ → ℕ → Size
later_row cols w =
    record { variables = cols; clauses = 3 * cols + (cols - w); words = 7 * cols + 4 * (cols - w); units = 0; weight = 0 }

-- a counter of n rows of the weight w
unfoldable pub equal_rows : ℕ → ℕ → ℕ → Size
equal_rows cols zero w = none
equal_rows cols (suc n) w = sum (first_row cols w) (multiple n (later_row cols w))
