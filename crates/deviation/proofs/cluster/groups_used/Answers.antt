use mathlib.Core.Path.{◌∙◌}
use native.Mathlib.Omega.{arith}
use Rattle.timetable.proofs.laws.Takers.{any-trues}
use Rattle.deviation.proofs.laws.Sums.{sum_more, sum_end}
use Rattle.deviation.proofs.cluster.groups_used.Goals as goal

pub loop-k-preserved : goal.loop-k-preserved
loop-k-preserved c = let l = c.loop-k in
    (omega (arith, c.positive-sum.ensures.1), sum_more _ _ _ l.k l.sum _ l.invariant.1 c.positive-sum.result (omega arith) (c.positive-sum.ensures.0 ∙ rw (c.ones_in.ensures.0, any-trues)))

pub returns : goal.returns
returns c = sum_end _ _ _ c.loop-k.k c.loop-k.sum _ c.loop-k.invariant.1 (omega arith)
