use native.Mathlib.Omega.{arith}
use lib.ListN.{length-set}
use Rattle.deviation.proofs.laws.Held.{cleared_more, cleared-all}
use Rattle.deviation.proofs.preferred.flag_outside.Goals as goal

pub loop-k-preserved : goal.loop-k-preserved
loop-k-preserved c = let l = c.loop-k in
    let m = c.requires.1.times l.k (omega (arith, c.row_len-k-end.ensures)) in
    (simp length-set l.invariant.0, cleared_more _ l.k l.flags _ l.invariant.1 (omega (arith, c.row_len-k-end.ensures)) c.row_member-t.ensures (omega (arith, l.invariant.0, c.row_member-t.ensures, m)))

pub returns : goal.returns
returns c = let l = c.loop-k in cleared-all _ l.k l.flags l.invariant.1 (omega (arith, c.row_len-k-end.ensures))
