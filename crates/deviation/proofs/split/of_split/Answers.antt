-- `deviation::split::of_split` meets its contract. The event's row of starts is there.
use Rattle.deviation.specs.Charge.{split_charge}
use Rattle.deviation.proofs.split.of_split.Goals as goal

pub returns : goal.returns
unfolding split_charge
returns c = rw (c.ones-count.ensures, c.row_of.ensures, c.starts_of.ensures) at c.deviation.ensures
