use Rattle.sink.specs.Run.{todo_start, todo_turn, todo_done}
use Rattle.sink.specs.World.{row_over}
use Rattle.counts.specs.UnitLines.{turned}
use Rattle.counts.proofs.laws.UnitLines.{units_start, units_turn, units_end}
use Rattle.counts.proofs.write_units.Goals as goal

pub loop-i-init : goal.loop-i-init
loop-i-init c = rw (units_start _ _ _ _) todo_start

pub loop-i-preserved : goal.loop-i-preserved
loop-i-preserved c = let l = c.loop-i in
    let a = c.args in
    todo_turn (units_turn a.weight (λ j. turned a.high (row_over a.q j)) a.start a.count l.i c.loop-i-test.true) l.invariant
    (rw c.bound_literal.ensures.0 at c.write_unit-z.ensures)

pub returns : goal.returns
returns c = let l = c.loop-i in
    let a = c.args in
    todo_done (units_end a.weight (λ j. turned a.high (row_over a.q j)) a.start a.count l.i c.loop-i-test.false) l.invariant
