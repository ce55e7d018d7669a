-- `deviation::distribute::of_distribute` meets its contract. The lengths from n to n are n.
use Rattle.deviation.specs.Charge.{distribute_charge}
use Rattle.deviation.proofs.laws.Subevents.{wanted-one}
use Rattle.deviation.proofs.distribute.of_distribute.Goals as goal

pub returns : goal.returns
unfolding distribute_charge
returns c = rw (← (wanted-one c.args.f.length)) (rw c.subevents_of-count.ensures at c.deviation.ensures)
