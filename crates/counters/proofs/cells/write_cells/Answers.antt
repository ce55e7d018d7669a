use mathlib.Core.Path.{sym}
use native.Mathlib.Omega.{arith}
use Rattle.sink.specs.Run.{todo_start, same, todo_turn, todo_done}
use Rattle.row_words.proofs.laws.Rows.{row_start, row_turn, row_end}
use Rattle.counters.proofs.cells.write_cells.Goals as goal

pub loop-j-init : goal.loop-j-init
loop-j-init c = todo_start

pub write_cell-z-requires : goal.write_cell-z-requires
write_cell-z-requires c = (c.requires.0, omega arith, omega arith, omega arith)

pub loop-j-preserved : goal.loop-j-preserved
loop-j-preserved c = let l = c.loop-j in
    let a = c.args in
    todo_turn (row_turn a.x a.w a.prev a.first a.cols l.j c.loop-j-test.true) l.invariant c.write_cell-z.ensures

pub returns : goal.returns
returns c = let a = c.args in
    same (sym (row_start a.x a.w a.prev a.first a.cols))
    (todo_done (row_end a.x a.w a.prev a.first a.cols c.loop-j.j c.loop-j-test.false) c.loop-j.invariant)
