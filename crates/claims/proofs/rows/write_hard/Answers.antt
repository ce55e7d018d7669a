-- `write_hard` meets its contract: a run over the formula in the mode Words.
use borrow.Author.Rules.{rules}
use mathlib.Core.Path.{refl}
use native.Mathlib.Omega.{arith}
use Rattle.claims.proofs.laws.Written.{hard_written}
use Rattle.claims.proofs.rows.write_hard.Goals as goal

pub write_formula-s-requires : goal.write_formula-s-requires
write_formula-s-requires c = (c.requires, omega arith)

pub returns : goal.returns
returns c = hard_written _ _ _ c.write_formula-s.ensures refl
