use native.Mathlib.Omega.{arith}
use Rattle.sink.specs.Run.{none, same}
use Rattle.counts.proofs.laws.CountLines.{low_zero, low_free, low_unit, low-units}
use Rattle.counts.proofs.write_low.Goals as goal

pub returns-then-lo-eq0 : goal.returns-then-lo-eq0
returns-then-lo-eq0 c = same (low_zero _ c.args.b _ _ c.if-lo-eq0.true) none

pub returns-then-b : goal.returns-then-b
returns-then-b c = same (low_free _ c.args.b _ _ c.if-b.true) c.write_shorts.ensures

pub returns-then-weight-eq0 : goal.returns-then-weight-eq0
returns-then-weight-eq0 c = same (low_unit _ c.args.b _ _ c.if-b.false c.if-weight-eq0.true (omega arith)) (rw c.column.ensures.0 at c.write_unit.ensures)

pub returns : goal.returns
returns c = same (low-units _ c.args.b _ _ c.if-b.false c.if-weight-eq0.false) c.write_units.ensures
