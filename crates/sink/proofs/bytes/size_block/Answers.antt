use Rattle.sink.proofs.Turns.{start, finish, size-turn}
use Rattle.sink.proofs.bytes.size_block.Goals as goal

pub loop-w-init : goal.loop-w-init
loop-w-init c = start

pub loop-w-preserved : goal.loop-w-preserved
loop-w-preserved c = let l = c.loop-w in
    size-turn _ _ l.w-index c.loop-w-test.true c.word_size-p.ensures l.invariant

pub returns : goal.returns
returns c = finish _ c.loop-w.w-index c.loop-w-test.false c.loop-w.invariant
