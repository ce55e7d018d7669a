-- `put_refusal` meets its contract: four runs of stores.
use Rattle.sink.specs.Run.{then}
use Rattle.text_program.proofs.put_refusal.Goals as goal

pub returns : goal.returns
returns c = let a = rw (c.from.ensures, c.number.ensures) at c.write_number-a.ensures in
    then (then (then a c.put-b.ensures) c.write_number-c.ensures) c.put.ensures
