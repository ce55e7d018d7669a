use Rattle.sink.specs.Run.{then}
use Rattle.sink.proofs.bytes.open_line.Goals as goal

pub returns-then-first : goal.returns-then-first
returns-then-first c = rw c.if-first.true (then c.write_number-a.ensures c.put.ensures).eq

pub returns : goal.returns
returns c = rw c.if-first.false
