-- `deviation::clash::of_clash` meets its contract. The resource's row is there.
use Rattle.deviation.specs.Charge.{clash_charge}
use Rattle.deviation.proofs.clash.of_clash.Goals as goal

pub returns : goal.returns
unfolding clash_charge
returns c = rw c.row_of-base.ensures at c.above_one.ensures
