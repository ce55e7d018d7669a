-- `counts::list_size` meets its contract.
-- Assumes nothing.
use Rattle.sizing.specs.Counts.{list_size}
use Rattle.sizing.proofs.counts.list_size.Goals as goal

pub returns : goal.returns
unfolding list_size
returns c = rw (c.count_size.ensures, c.min-lowered.ensures)
