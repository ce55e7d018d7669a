use native.Mathlib.Omega.{arith}
use Rattle.deviation.proofs.laws.Subevents.{walk_start, walk_more, walk_end}
use Rattle.deviation.proofs.subevents.count_wanted.Goals as goal

pub loop-i-init : goal.loop-i-init
loop-i-init c = (omega arith, walk_start _ _ _ _ _)

pub loop-i-preserved : goal.loop-i-preserved
loop-i-preserved c = let l = c.loop-i in
    (omega (arith, c.pass-w.ensures.1), walk_more _ _ _ _ _ l.i l.w c.pass-w.result (omega arith) (omega arith) l.invariant.1 c.pass-w.ensures.0)

pub returns : goal.returns
returns c = walk_end _ _ _ _ _ c.loop-i.i c.loop-i.w (omega arith) c.loop-i.invariant.1
