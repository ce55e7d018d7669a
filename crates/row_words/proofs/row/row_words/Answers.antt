use mathlib.Core.Path.{sym, ap}
use mathlib.Core.List.{flat_map}
use native.Mathlib.Omega.{arith}
use Rattle.sink.specs.Block.{mark}
use Rattle.sink.specs.Run.{todo_start, todo_turn, todo_done, same}
use Rattle.row_words.proofs.laws.Cells.{stored-ran}
use Rattle.row_words.proofs.RowLines.{cells_start, put_turn, put_end}
use Rattle.row_words.proofs.row.row_words.Goals as goal

pub loop-j-init : goal.loop-j-init
loop-j-init c = (omega (arith, c.requires.4), todo_start)

pub cell_words-p-requires : goal.cell_words-p-requires
cell_words-p-requires c = let l = c.loop-j in
    let s = c.requires in
    let t = c.loop-j-test.true in
    (s.0, s.1, omega (arith, s.2, t), omega (arith, s.3, t), omega (arith, l.auto.words, l.invariant.0, t))

pub returns : goal.returns
returns c = let l = c.loop-j in
    let a = c.args in
    same (ap (flat_map mark) (sym (cells_start a.x a.w a.prev a.first a.cols)))
    (todo_done (put_end a.x a.w a.prev a.first a.cols mark l.j c.loop-j-test.false) l.invariant.1)

pub loop-j-preserved : goal.loop-j-preserved
loop-j-preserved c = let l = c.loop-j in
    let a = c.args in
    let t = c.loop-j-test.true in
    let f = c.cell_words-p in (
      omega (arith, l.invariant.0, t, f.ensures.end, f.ensures.few),
      todo_turn (put_turn a.x a.w a.prev a.first a.cols mark l.j t) l.invariant.1 (stored-ran f.ensures (omega (arith, l.invariant.0, t))),
    )
