-- `header::write_header` meets its contract: four runs of stores, one after another.
use Rattle.digits.specs.Run.{then, same}
use Rattle.header.proofs.laws.Header.{header-fields}
use Rattle.header.proofs.write_header.Goals as goal

pub returns : goal.returns
returns c = let a = c.args in
    same (header-fields a.variables a.clauses a.top)
    (then (then (then c.put_all-a.ensures c.put_field-b.ensures) c.put_field-c.ensures) c.put_field.ensures)
