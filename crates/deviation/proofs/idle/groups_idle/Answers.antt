use native.Mathlib.Omega.{arith}
use Rattle.deviation.proofs.laws.Sums.{sum_more, sum_end}
use Rattle.deviation.proofs.idle.groups_idle.Goals as goal

pub loop-k-preserved : goal.loop-k-preserved
loop-k-preserved c = let l = c.loop-k in
    (omega (arith, c.idle_in-sum.ensures.1), sum_more _ _ _ l.k l.sum _ l.invariant.1 c.idle_in-sum.result (omega arith) c.idle_in-sum.ensures.0)

pub returns : goal.returns
returns c = sum_end _ _ _ c.loop-k.k c.loop-k.sum _ c.loop-k.invariant.1 (omega arith)
