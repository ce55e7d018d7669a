-- `header::put_field` meets its contract: the number, then the bytes after it.
use Rattle.digits.specs.Run.{then}
use Rattle.header.proofs.put_field.Goals as goal

pub returns : goal.returns
returns c = then c.write_number-a.ensures c.put_all.ensures
