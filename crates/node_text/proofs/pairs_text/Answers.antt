use native.Mathlib.Omega.{arith}
use Rattle.sink.specs.Run.{todo_start, todo_turn, todo_done}
use Rattle.node_text.proofs.PairLines.{lines_turn, lines_end, half-opposite}
use Rattle.node_text.proofs.pairs_text.Goals as goal

pub spell-weight-requires : goal.spell-weight-requires
spell-weight-requires c = omega (arith, c.requires.weight)

pub spell-second-requires : goal.spell-second-requires
spell-second-requires c = omega (arith, c.requires.second)

pub loop-l-init : goal.loop-l-init
loop-l-init c = (omega (arith, c.requires.room), todo_start)

pub spell_after-number-requires : goal.spell_after-number-requires
spell_after-number-requires c = let l = c.loop-l in
    omega (arith, c.requires.literals l.l-index (omega arith))

pub opposite-requires : goal.opposite-requires
opposite-requires c = omega (arith, c.requires.literals c.loop-l.l-index (omega arith))

pub pair_line-p-requires : goal.pair_line-p-requires
pair_line-p-requires c = let l = c.loop-l in
    (omega (arith, c.spell_after-number.ensures, half-opposite _ c.opposite.ensures), c.spell-second.ensures, omega (arith, l.auto.text, l.invariant.0, c.loop-l-test.true))

pub loop-l-preserved : goal.loop-l-preserved
loop-l-preserved c = let a = c.args in
    let l = c.loop-l in
    let p = c.pair_line-p in
    let t = c.loop-l-test.true in (
      omega (arith, l.invariant.0, t, p.ensures.upper_bound),
      todo_turn (lines_turn a.top a.q a.lits.now l.l-index t c.opposite.ensures) l.invariant.1 (rw c.spell-weight.ensures at p.ensures.ran),
    )

pub returns : goal.returns
returns c = let a = c.args in
    let l = c.loop-l in
    todo_done (lines_end a.top a.q a.lits.now l.l-index c.loop-l-test.false) l.invariant.1
