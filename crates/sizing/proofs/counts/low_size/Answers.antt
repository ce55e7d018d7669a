-- `counts::low_size` meets its contract.
-- Assumes nothing.
use Rattle.sizing.proofs.Results.{low_free, low-plain}
use Rattle.sizing.proofs.counts.low_size.Goals as goal

pub returns-then-free : goal.returns-then-free
returns-then-free c = low_free _ _ _ _ c.if-free.true c.saturating_sub-k.ensures c.shorts_size.ensures

pub returns : goal.returns
returns c = low-plain _ _ _ c.if-free.false c.units_size.ensures
