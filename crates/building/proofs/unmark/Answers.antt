use Rattle.std.proofs.Common.{arith}
use Rattle.building.proofs.Building.{pass-start, pass_next, pass_marked, pass_end}
use Rattle.building.proofs.unmark.Goals as goal

pub loop-i-init : goal.loop-i-init
loop-i-init c = pass-start c.args.words.now c.args.first c.args.end (omega arith)

pub returns-then-w-ge-MARK : goal.returns-then-w-ge-MARK
returns-then-w-ge-MARK c =
    let l = c.loop-i in
    let a = c.args in
    let whole =
    pass_marked a.words.now l.words a.first a.end l.i l.invariant (omega arith) c.loop-i-test.true c.if-w-ge-MARK.true
    in
    record { value = whole.0; words_after = whole.1 }

pub loop-i-preserved : goal.loop-i-preserved
loop-i-preserved c =
    let l = c.loop-i in
    let a = c.args in
    pass_next a.words.now l.words a.first a.end l.i l.invariant (omega arith) c.loop-i-test.true c.if-w-ge-MARK.false

pub returns : goal.returns
returns c =
    let l = c.loop-i in
    let a = c.args in
    let whole = pass_end a.words.now l.words a.first a.end l.i l.invariant (omega arith) c.loop-i-test.false in
    record { value = whole.0; words_after = whole.1 }
