-- `deviation::preferred::of_preferred` meets its contract. The group, the event's row of times and its row of starts are there.
use Rattle.deviation.specs.Charge.{preferred_charge}
use Rattle.deviation.proofs.laws.Charge.{group_row, group_flaggable}
use Rattle.deviation.proofs.preferred.of_preferred.Goals as goal

pub flag_outside-requires : goal.flag_outside-requires
flag_outside-requires c = let p = c.requires in
    (group_row p.1.0 p.1.1.1, group_flaggable p.1.0 p.1.1.1 p.0.sizes.times)

pub returns : goal.returns
unfolding preferred_charge
returns c = rw (← c.row_of-takes.ensures, ← c.starts_of.ensures) (c.count_held.ensures _ c.flag_outside.ensures)
