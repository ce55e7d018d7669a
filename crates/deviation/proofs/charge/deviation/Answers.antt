-- `deviation::charge::deviation` meets its contract. By the tests of the definition.
use borrow.Author.Tests.{lt-ltb, le-ltb}
use Rattle.scope.specs.Score.{deviation}
use Rattle.deviation.proofs.charge.deviation.Goals as goal

pub returns-then-count-lo : goal.returns-then-count-lo
unfolding deviation
returns-then-count-lo c = let a = c.args in rw (lt-ltb a.count a.lo c.if-count-lo.true)

pub returns-then-hi-count : goal.returns-then-hi-count
unfolding deviation
returns-then-hi-count c = let a = c.args in rw (le-ltb a.count a.lo c.if-count-lo.false, lt-ltb a.hi a.count c.if-hi-count.true)

pub returns : goal.returns
unfolding deviation
returns c = let a = c.args in rw (le-ltb a.count a.lo c.if-count-lo.false, le-ltb a.hi a.count c.if-hi-count.false)
