-- `write_rows` meets its contract: a run over the formula in the mode Tail.
use borrow.Author.Rules.{rules}
use mathlib.Core.Path.{refl}
use Rattle.claims.proofs.laws.Written.{rows_written}
use Rattle.claims.proofs.rows.write_rows.Goals as goal

pub write_formula-requires : goal.write_formula-requires
write_formula-requires c = (c.requires.writable.0, c.requires.writable.1)

pub returns : goal.returns
returns c = let p = c.requires.first_nonzero in rows_written _ _ _ c.write_formula.ensures refl refl p.0 p.1
