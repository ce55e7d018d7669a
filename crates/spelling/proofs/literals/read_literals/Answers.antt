use Rattle.std.proofs.Common.{sym, ◌∙◌}
use Rattle.reader.proofs.Loops.{nearer}
use Rattle.reader.proofs.NumberTold.{value-at, no-value-at}
use Rattle.spelling.proofs.Turns.{going-start, going-cut, going-end, going-bad, going-more}
use Rattle.spelling.proofs.literals.read_literals.Goals as goal

pub loop-l-init : goal.loop-l-init
loop-l-init c = let e = c.new-r.ensures in
    record { bytes_same = cc; going = rw e.1 (going-start c.args.proof.now c.args.last c.args.at c.args.marks.now) }

pub returns-then-l-eq0 : goal.returns-then-l-eq0
returns-then-l-eq0 c = let l = c.loop-l in
    let s = c.args.proof.now in
    let told = rw l.invariant.bytes_same at c.number.ensures in
    let whole =
    going-end s c.args.last c.args.at c.args.marks.now l.r.at l.size l.marks l.invariant.going _ _ (value-at s _ _ told c.in-Ok.is) c.if-l-eq0.true
    in
    record { value = whole.0; marks_after = whole.1 }

pub returns-then-not-deny : goal.returns-then-not-deny
returns-then-not-deny c = let l = c.loop-l in
    let s = c.args.proof.now in
    let told = rw l.invariant.bytes_same at c.number.ensures in
    let e = value-at s _ _ told c.in-Ok.is in
    let v = c.if-not-deny.ensures in
    let whole =
    going-bad s c.args.last c.args.at c.args.marks.now l.r.at l.size l.marks l.invariant.going _ _ e c.if-l-eq0.false (sym v.value)
    in
    record { value = whole.0; marks_after = v.marks_after ∙ whole.1 }

pub loop-l-smaller : goal.loop-l-smaller
loop-l-smaller c = let l = c.loop-l in
    let told = rw l.invariant.bytes_same at c.number.ensures in
    rw c.moved-r.ensures.1 (nearer c.args.proof.now l.r.at _ _ (value-at _ _ _ told c.in-Ok.is))

pub loop-l-preserved : goal.loop-l-preserved
loop-l-preserved c = let l = c.loop-l in
    let s = c.args.proof.now in
    let told = rw l.invariant.bytes_same at c.number.ensures in
    let e = value-at s _ _ told c.in-Ok.is in
    let v = c.if-not-deny.ensures in
    record {
      bytes_same = cc;
      going =
          rw (v.marks_after, c.moved-r.ensures.1)
          (going-more s c.args.last c.args.at c.args.marks.now l.r.at l.size l.marks l.invariant.going _ _ e c.if-l-eq0.false (sym v.value));
    }

pub returns : goal.returns
returns c = let l = c.loop-l in
    let s = c.args.proof.now in
    let told = rw l.invariant.bytes_same at c.number.ensures in
    let whole =
    going-cut s c.args.last c.args.at c.args.marks.now l.r.at l.size l.marks l.invariant.going _ _ (no-value-at s _ _ told c.in_default.is)
    in
    record { value = whole.0; marks_after = whole.1 }
