-- `deviation::spread::of_spread` meets its contract. The rows of starts of the listed events and the group are there.
use Rattle.deviation.specs.Charge.{spread_charge}
use Rattle.deviation.proofs.laws.Charge.{events-listed}
use Rattle.deviation.proofs.spread.of_spread.Goals as goal

pub ones_of_events-count-requires : goal.ones_of_events-count-requires
ones_of_events-count-requires c = let p = c.requires in rw c.starts_of-base.ensures (events-listed p.0 p.1.0 p.1.1.1.1 p.1.1.0 p.1.1.1.0)

pub returns : goal.returns
unfolding spread_charge
returns c = rw (c.ones_of_events-count.ensures, c.starts_of-base.ensures) at c.deviation.ensures
