use Rattle.reader.proofs.Loops.{nearer}
use Rattle.reader.proofs.NumberTold.{value-at, no-value-at}
use Rattle.passing.proofs.Turns.{going-start, going-cut, going-end, going-more}
use Rattle.passing.proofs.numbers.pass_numbers.Goals as goal

pub loop-n-init : goal.loop-n-init
loop-n-init c = let e = c.new-r.ensures in record { bytes_same = cc; going = rw e.1 (going-start c.args.proof.now c.args.at) }

pub returns-then-n-eq0 : goal.returns-then-n-eq0
returns-then-n-eq0 c = let s = c.args.proof.now in
    let l = c.loop-n in
    let told = rw l.invariant.bytes_same at c.number.ensures in
    going-end s c.args.at l.r.at l.invariant.going _ _ (value-at s _ _ told c.in-Ok.is) c.if-n-eq0.true

pub loop-n-smaller : goal.loop-n-smaller
loop-n-smaller c = let l = c.loop-n in
    let told = rw l.invariant.bytes_same at c.number.ensures in
    rw c.moved-r.ensures.1 (nearer c.args.proof.now l.r.at _ _ (value-at _ _ _ told c.in-Ok.is))

pub loop-n-preserved : goal.loop-n-preserved
loop-n-preserved c = let s = c.args.proof.now in
    let l = c.loop-n in
    let told = rw l.invariant.bytes_same at c.number.ensures in
    record {
      bytes_same = cc;
      going = rw c.moved-r.ensures.1 (going-more s c.args.at l.r.at l.invariant.going _ _ (value-at s _ _ told c.in-Ok.is) c.if-n-eq0.false);
    }

pub returns : goal.returns
returns c = let s = c.args.proof.now in
    let l = c.loop-n in
    let told = rw l.invariant.bytes_same at c.number.ensures in
    going-cut s c.args.at l.r.at l.invariant.going _ _ (no-value-at s _ _ told c.in_default.is)
