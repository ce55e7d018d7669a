-- The rows that a list of row structs holds.
use Rattle.std.specs.Prelude.{List, ℕ, get_or, set}
use Rattle.directory.specs.declared.Row.{Row}
use Rattle.directory.specs.Rows.{no_row, dying}

-- row i of them, and no row past the end
abbrev pub rows_of : List Row → ℕ → Row
rows_of xs i = get_or xs i no_row

-- row i of them is no longer live
abbrev pub with_dead : List Row → ℕ → List Row
with_dead xs i = set xs i (dying (rows_of xs i))
