-- The lengths of lent stores, and what fits into them.
use Rattle.std.specs.Prelude.{Bool, ◌&&◌, ℕ, leb}
use Rattle.scope.specs.Operations.{Lent}
use Rattle.scope.specs.declared.FormulaSize.{FormulaSize}

abbrev pub lent : ℕ → ℕ → ℕ → Lent
lent w r b = record { words = w; rows = r; bytes = b }

-- whether stores are long enough for a formula of a size
abbrev pub size_fits : FormulaSize → Lent → Bool
size_fits z l = leb z.words l.words && leb z.clauses l.rows && leb z.variables l.bytes
