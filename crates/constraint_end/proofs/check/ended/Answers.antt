-- `constraint_end::check::ended` meets its contract: the tests of `ends_at` in turn.
use borrow.Author.Tests.{le-leb, lt-leb}
use native.Mathlib.Omega.{arith}
use Rattle.constraint_end.specs.End.{ends_at}
use Rattle.constraint_end.proofs.check.ended.Goals as goal
use Rattle.constraint_end.proofs.check.ended.Goals.{then-e-via-then-e, then-e-via-else-e+then-n-e}

pub returns-then-n-gt255 : goal.returns-then-n-gt255
unfolding ends_at
returns-then-n-gt255 c = rw (lt-leb c.args.n 255 (omega arith))

pub returns-in-Some : goal.returns-in-Some
unfolding ends_at
returns-in-Some c = rw (le-leb c.args.n 255 (omega arith), c.in-Some.is)

pub returns-then-e : goal.returns-then-e
unfolding ends_at
returns-then-e c =
    rw (le-leb c.args.n 255 (omega arith), c.in_default.is)
    (elim c.then-e.branch [ then-e-via-then-e w ↦ rw (lt-leb _ _ w.if-e.true) | then-e-via-else-e+then-n-e w ↦ rw (le-leb _ _ w.if-e.false, lt-leb _ _ w.if-n-e.true) ])

pub returns : goal.returns
unfolding ends_at
returns c = let n = c.args.n in
    rw (le-leb n 255 (omega arith), c.in_default.is, le-leb _ _ c.if-e.false, le-leb _ _ c.if-n-e.false)
