use Rattle.sink.specs.Run.{same}
use Rattle.gates.proofs.laws.Blocks.{clauses-ran, unit-block}
use Rattle.gates.proofs.laws.Units.{unit-soft}
use Rattle.gates.proofs.units.write_unit.Goals as goal

pub returns-then-weight-eq0 : goal.returns-then-weight-eq0
returns-then-weight-eq0 c = rw c.if-weight-eq0.true (clauses-ran (unit-block c.requires.small) c.emit.ensures)

pub returns : goal.returns
returns c = same (unit-soft _ _ c.if-weight-eq0.false) c.write_soft.ensures
