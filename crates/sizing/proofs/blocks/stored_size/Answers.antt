-- `blocks::stored_size` meets its contract.
-- Assumes nothing.
use mathlib.Core.Path.{refl}
use Rattle.sizing.specs.Whole.{stored}
use Rattle.sizing.proofs.blocks.stored_size.Goals as goal

pub returns : goal.returns
unfolding stored
returns c = refl
