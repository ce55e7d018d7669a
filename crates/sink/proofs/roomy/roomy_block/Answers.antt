use native.Mathlib.Omega.{arith}
use Rattle.sink.proofs.Turns.{start, turn, finish}
use Rattle.sink.proofs.roomy.roomy_block.Goals as goal

pub loop-w-init : goal.loop-w-init
loop-w-init c = (omega arith, start)

pub roomy_word-p-requires : goal.roomy_word-p-requires
roomy_word-p-requires c = omega arith

pub loop-w-preserved : goal.loop-w-preserved
loop-w-preserved c = let l = c.loop-w in
    (omega arith, turn l.first _ l.w-index c.loop-w-test.true c.roomy_word-p.ensures.text_after l.invariant.1)

pub returns : goal.returns
returns c = finish _ c.loop-w.w-index c.loop-w-test.false c.loop-w.invariant.1
