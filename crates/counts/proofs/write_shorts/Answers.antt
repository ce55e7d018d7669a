use mathlib.Core.Path.{sym}
use Rattle.sink.specs.Run.{same, todo_start, todo_turn, todo_done}
use Rattle.sink.specs.World.{row_over}
use Rattle.counts.proofs.laws.UnitLines.{shorts_start, shorts_turn, shorts_end}
use Rattle.counts.proofs.write_shorts.Goals as goal

pub loop-i-init : goal.loop-i-init
loop-i-init c = todo_start

pub loop-i-preserved : goal.loop-i-preserved
loop-i-preserved c = let l = c.loop-i in
    let a = c.args in
    todo_turn (shorts_turn a.weight (row_over a.q) a.v a.count l.i c.loop-i-test.true) l.invariant
    (rw (c.column.ensures.0, c.column-in-loop-i.ensures.0) at c.write_short_unit-z.ensures)

pub returns : goal.returns
returns c = let l = c.loop-i in
    let a = c.args in
    same (sym (shorts_start a.weight (row_over a.q) a.v a.count))
    (todo_done (shorts_end a.weight (row_over a.q) a.v a.count l.i c.loop-i-test.false) l.invariant)
