use native.Mathlib.Omega.{arith}
use Rattle.deviation.proofs.laws.Group.{ones_more, ones_end}
use Rattle.deviation.proofs.group.ones_in.Goals as goal

pub loop-k-preserved : goal.loop-k-preserved
loop-k-preserved c = let l = c.loop-k in
    (omega arith, ones_more c.row_len-k-end.ensures c.requires.1 c.loop-k-test.true c.row_member-t.ensures l.count c.bit_of-count.result _ l.invariant.1 c.bit_of-count.ensures.0)

pub returns : goal.returns
returns c = let l = c.loop-k in
    (ones_end _ _ _ l.k _ c.row_len-k-end.ensures c.loop-k-test.false l.count _ l.invariant.1, omega (arith, c.row_len-k-end.ensures, c.requires.0.count))
