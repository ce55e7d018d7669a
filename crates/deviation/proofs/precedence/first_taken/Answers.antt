use native.Mathlib.Omega.{arith}
use Rattle.deviation.proofs.laws.Gap.{none_more, first_found, first_none}
use Rattle.deviation.proofs.precedence.first_taken.Goals as goal

pub returns-then-bytes-base-eq1 : goal.returns-then-bytes-base-eq1
returns-then-bytes-base-eq1 c = let l = c.loop-i in
    let found = rw c.row_of-base.ensures at c.if-bytes-base-eq1.true in
    first_found _ _ _ l.i l.invariant (omega arith) found

pub loop-i-preserved : goal.loop-i-preserved
loop-i-preserved c = let l = c.loop-i in
    let free = rw c.row_of-base.ensures at c.if-bytes-base-eq1.false in
    none_more _ _ _ l.i l.invariant (omega arith) free

pub returns : goal.returns
returns c = let l = c.loop-i in first_none _ _ _ l.i l.invariant (omega arith)
