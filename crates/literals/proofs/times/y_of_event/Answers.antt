-- `literals::times::y_of_event` meets its contract.
use Rattle.literals.proofs.times.y_of_event.Goals as goal

pub returns : goal.returns
returns c = rw c.base-b.ensures.value at c.all_times.ensures
