use borrow.Author.Tests.{eq-eqb, ne_eqb}
use Rattle.sink.proofs.judge_block.bad_after.Goals as goal

pub returns-then-holds : goal.returns-then-holds
returns-then-holds c = rw (eq-eqb _ 0 c.if-bad-eq0.true, c.if-holds.true)

pub returns-then-bad-eq0 : goal.returns-then-bad-eq0
returns-then-bad-eq0 c = rw (eq-eqb _ 0 c.if-bad-eq0.true, c.if-holds.false)

pub returns : goal.returns
returns c = rw (ne_eqb _ 0 c.if-bad-eq0.false)
