-- `cell::triple` meets its contract: three stores.
use native.Mathlib.Omega.{arith}
use lib.ListN.{length-set}
use Rattle.row_words.proofs.laws.Cells.{three-words}
use Rattle.row_words.proofs.cell.triple.Goals as goal

pub bounds-words-at-2 : goal.bounds-words-at-2
bounds-words-at-2 c = simp length-set (omega arith)

pub bounds-words-at-3 : goal.bounds-words-at-3
bounds-words-at-3 c = simp length-set (omega arith)

pub returns : goal.returns
returns c = three-words _ _ _ _ _
