use Rattle.reader.proofs.Loops.{nearer}
use Rattle.reader.proofs.NumberTold.{value-at, no-value-at}
use Rattle.copying.proofs.Copying.{going-start, going-cut, going-end, going-full, going-more}
use Rattle.copying.proofs.literals.copy_literals.Goals as goal
use Rattle.copying.proofs.literals.copy_literals.Goals.{then-l-eq0-via-then-l-eq0, then-l-eq0-via-else-l-eq0+then-words-to}

pub loop-l-init : goal.loop-l-init
loop-l-init c = let e = c.new-r.ensures in
    record { bytes_same = cc; going = rw e.1 (going-start c.args.proof.now c.args.at c.args.words.now c.args.first) }

pub returns-then-l-eq0 : goal.returns-then-l-eq0
returns-then-l-eq0 c = let l = c.loop-l in
    let a = c.args in
    let s = a.proof.now in
    let told = rw l.invariant.bytes_same at c.number.ensures in
    let e = value-at s _ _ told c.in-Ok.is in
    elim c.then-l-eq0.branch [
      | then-l-eq0-via-then-l-eq0 w ↦ going-end s a.at a.words.now a.first l.r.at l.to l.words l.invariant.going _ _ e w.if-l-eq0.true
      | then-l-eq0-via-else-l-eq0+then-words-to w ↦
          going-full s a.at a.words.now a.first l.r.at l.to l.words l.invariant.going _ _ e w.if-l-eq0.false w.if-words-to.true
    ]

pub loop-l-smaller : goal.loop-l-smaller
loop-l-smaller c = let l = c.loop-l in
    let told = rw l.invariant.bytes_same at c.number.ensures in
    rw c.moved-r.ensures.1 (nearer c.args.proof.now l.r.at _ _ (value-at _ _ _ told c.in-Ok.is))

pub loop-l-preserved : goal.loop-l-preserved
loop-l-preserved c = let l = c.loop-l in
    let a = c.args in
    let s = a.proof.now in
    let told = rw l.invariant.bytes_same at c.number.ensures in
    let e = value-at s _ _ told c.in-Ok.is in
    record {
      bytes_same = cc;
      going =
          rw c.moved-r.ensures.1
          (going-more s a.at a.words.now a.first l.r.at l.to l.words l.invariant.going _ _ e c.if-l-eq0.false c.if-words-to.false);
    }

pub returns : goal.returns
returns c = let l = c.loop-l in
    let a = c.args in
    let s = a.proof.now in
    let told = rw l.invariant.bytes_same at c.number.ensures in
    going-cut s a.at a.words.now a.first l.r.at l.to l.words l.invariant.going _ _ (no-value-at s _ _ told c.in_default.is)
