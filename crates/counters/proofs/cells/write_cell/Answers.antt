use mathlib.Core.Path.{sym}
use native.Mathlib.Omega.{arith}
use lib.Seq.{length-take-le}
use Rattle.row_words.proofs.laws.Cells.{gate-ran, stored-first}
use Rattle.counters.proofs.cells.write_cell.Goals as goal

pub slice_bounds-emit-end : goal.slice_bounds-emit-end
slice_bounds-emit-end c = sym (length-take-le _ _ (omega arith))

pub emit-requires : goal.emit-requires
emit-requires c = (stored-first c.cell_words-n.ensures (omega arith)).whole

pub returns : goal.returns
returns c = gate-ran _ _ (stored-first c.cell_words-n.ensures (omega arith)) c.emit.ensures
