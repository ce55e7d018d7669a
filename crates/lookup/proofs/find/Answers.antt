use Rattle.std.proofs.Common.{◌≡◌, length}
use Rattle.directory.specs.Directory.{rows_of}
use Rattle.lookup.specs.Lookup.{narrowed}
use Rattle.lookup.proofs.Search.{left_more, left_over, narrows, nearer, bounded}
use Rattle.lookup.proofs.find.Goals as goal

pub loop-s-smaller : goal.loop-s-smaller
loop-s-smaller c =
    let ys = c.args.rows.now in
    let p = c.loop-s.s in
    let e : c.narrow-s.result ≡ narrowed p (rows_of ys p.at) c.args.id = c.narrow-s.ensures in
    rw e (nearer (length ys) p (rows_of ys p.at) c.args.id c.loop-s.invariant.bound c.loop-s-test.true _ (narrows p (rows_of ys p.at) c.args.id))

pub loop-s-preserved : goal.loop-s-preserved
loop-s-preserved c =
    let ys = c.args.rows.now in
    let p = c.loop-s.s in
    let id = c.args.id in
    let e : c.narrow-s.result ≡ narrowed p (rows_of ys p.at) id = c.narrow-s.ensures in
    record {
      bound = rw e (bounded (length ys) p (rows_of ys p.at) id c.loop-s.invariant.bound c.loop-s-test.true _ (narrows p (rows_of ys p.at) id));
      left = left_more (rows_of ys) id p _ c.loop-s.invariant.left c.loop-s.invariant.bound c.loop-s-test.true _ e;
    }

pub returns : goal.returns
returns c = left_over _ _ c.loop-s.s _ c.loop-s.invariant.left c.loop-s-test.false
