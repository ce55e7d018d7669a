-- `deviation::lengths::of_lengths` meets its contract. The lengths outside are shorter or longer.
use Rattle.deviation.specs.Charge.{lengths_charge}
use Rattle.deviation.proofs.laws.Subevents.{wanted-outside}
use Rattle.deviation.proofs.lengths.of_lengths.Goals as goal

pub returns : goal.returns
unfolding lengths_charge
returns c = let f = c.args.f in rw (← (wanted-outside f.shortest f.longest)) c.subevents_of.ensures
