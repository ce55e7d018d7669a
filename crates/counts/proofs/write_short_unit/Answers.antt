use Rattle.sink.specs.Run.{then}
use Rattle.counts.proofs.write_short_unit.Goals as goal

pub returns : goal.returns
returns c = then c.write_short-z.ensures c.write_unit.ensures
