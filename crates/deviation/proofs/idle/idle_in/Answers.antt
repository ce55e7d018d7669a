use mathlib.Core.Path.{refl}
use native.Mathlib.Omega.{arith}
use Rattle.scope.specs.Idle.{kept_after}
use Rattle.deviation.proofs.laws.Idle.{walk_more}
use Rattle.deviation.proofs.idle.idle_in.Goals as goal

pub loop-k-init : goal.loop-k-init
unfolding kept_after
loop-k-init c = (omega arith, refl)

pub loop-k-preserved : goal.loop-k-preserved
loop-k-preserved c = let l = c.loop-k in
    let p = c.requires in
    let m = walk_more c.row_len-k-end.ensures p.1 c.loop-k-test.true c.row_member-t.ensures l.kept c.step-kept.result _ l.invariant.1 l.invariant.0 c.step-kept.ensures in
    (m.0, m.1)
