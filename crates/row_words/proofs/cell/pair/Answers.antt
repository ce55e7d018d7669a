-- `cell::pair` meets its contract: two stores.
use native.Mathlib.Omega.{arith}
use lib.ListN.{length-set}
use Rattle.row_words.proofs.laws.Cells.{two-words}
use Rattle.row_words.proofs.cell.pair.Goals as goal

pub bounds-words-at-2 : goal.bounds-words-at-2
bounds-words-at-2 c = simp length-set (omega arith)

pub returns : goal.returns
returns c = two-words _ _ _ _
