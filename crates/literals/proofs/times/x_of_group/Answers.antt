-- `literals::times::x_of_group` meets its contract.
use Rattle.literals.proofs.times.x_of_group.Goals as goal

pub returns : goal.returns
returns c = rw c.base-b.ensures.value at c.group_times.ensures
