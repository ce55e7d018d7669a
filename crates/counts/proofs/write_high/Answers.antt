use Rattle.sink.specs.Run.{none, same}
use Rattle.counts.proofs.laws.UnitLines.{high_none, high_hard, high_soft}
use Rattle.counts.proofs.write_high.Goals as goal

pub returns-then-n-hi : goal.returns-then-n-hi
returns-then-n-hi c = same (high_none _ _ _ _ _ c.if-n-hi.true) none

pub returns-then-weight-eq0 : goal.returns-then-weight-eq0
returns-then-weight-eq0 c = same (high_hard _ _ _ _ _ c.if-weight-eq0.true c.if-n-hi.false) (rw c.bound_literal.ensures.0 at c.write_unit.ensures)

pub returns : goal.returns
returns c = same (high_soft _ _ _ _ _ c.if-weight-eq0.false) c.write_units.ensures
