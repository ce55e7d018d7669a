use mathlib.Core.Path.{◌≡◌}
use native.Mathlib.Omega.{arith}
use Rattle.row_size.proofs.RowSize.{row_length}
use Rattle.row_size.proofs.row_size.Goals as goal

pub returns : goal.returns
returns c = let a = c.args in
    let w : a.w ≡ 1 = omega (arith, c.if-w-ne1.false) in
    rw w
    (row_length a.top a.x a.prev a.first a.cols c.in_ok-a.a c.in_ok-c.c
    c.requires.0.some (omega (arith, c.if-prev-eq0.false)) c.requires.1 c.in_ok-a.ensures.each c.in_ok-c.ensures.each
    c.number_size-beside.result c.both_size-both.result (omega (arith, c.if-cols-eq0.false)) c.number_size-beside.ensures.0 c.both_size-both.ensures.0)
