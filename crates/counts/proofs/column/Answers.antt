use mathlib.Core.Path.{sym}
use native.Mathlib.Omega.{arith}
use Rattle.counts.proofs.laws.UnitLines.{over-column}
use Rattle.counts.proofs.column.Goals as goal

pub returns : goal.returns
returns c = (sym (over-column _ _ c.requires.0 c.requires.1), record { some = omega arith; small = omega arith })
