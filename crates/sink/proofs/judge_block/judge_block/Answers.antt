use Rattle.sink.proofs.Turns.{start, finish, judge-turn}
use Rattle.sink.proofs.judge_block.judge_block.Goals as goal

pub loop-w-init : goal.loop-w-init
loop-w-init c = start

pub loop-w-preserved : goal.loop-w-preserved
loop-w-preserved c = let l = c.loop-w in
    judge-turn _ _ l.w-index c.loop-w-test.true c.judge_word-k.ensures l.invariant

pub returns : goal.returns
returns c = finish _ c.loop-w.w-index c.loop-w-test.false c.loop-w.invariant
