-- The sizes of the formula's blocks before the constraints: starts, and the uses of one resource.
use Rattle.std.specs.Prelude.{ℕ, ◌-◌, ◌*◌}
use Rattle.sizing.specs.declared.Size.{Size}
use Rattle.sizing.specs.Sums.{sum, multiple}
use Rattle.sizing.specs.Gates.{or_size}

-- the clauses of an event's starts at T times; at time 1 the second has a literal less
unfoldable pub start_clauses : ℕ → Size
start_clauses T = record { variables = 0; clauses = 2 * T; words = 5 * T - 1; units = 0; weight = 0 }

-- Y and S of E events at T times, with the clauses of their starts
unfoldable pub starts_size : ℕ → ℕ → Size
starts_size E T =
    sum (record { variables = 2 * (E * T); clauses = 0; words = 0; units = 0; weight = 0 }) (multiple E (start_clauses T))

-- X at T times of a resource that n events use
unfoldable pub use_size : ℕ → ℕ → Size
use_size T n = multiple T (or_size n)
