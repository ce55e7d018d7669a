use Rattle.sink.specs.Run.{then}
use Rattle.sink.proofs.bytes.close_line.Goals as goal

pub returns : goal.returns
returns c = then c.put-a.ensures c.put.ensures
