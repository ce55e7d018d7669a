-- The sizes of an OR or an AND, and of units.
use Rattle.std.specs.Prelude.{ℕ, zero, suc, ◌+◌, ◌*◌}
use Rattle.sizing.specs.declared.Size.{Size}

-- one variable with so many clauses and words
abbrev pub variable_size : ℕ → ℕ → Size
variable_size c w = record { variables = 1; clauses = c; words = w; units = 0; weight = 0 }

-- the OR or the AND of n literals
unfoldable pub or_size : ℕ → Size
or_size n = variable_size (n + 1) (3 * n + 1)

-- a soft unit, a hard unit, and a unit of the weight w
unfoldable pub soft_size : ℕ → Size
soft_size w = record { variables = 0; clauses = 0; words = 0; units = 1; weight = w }

unfoldable pub hard_unit : Size
hard_unit = record { variables = 0; clauses = 1; words = 1; units = 0; weight = 0 }

unfoldable pub unit_size : ℕ → Size
unit_size zero = hard_unit
unit_size (suc w) = soft_size (suc w)
