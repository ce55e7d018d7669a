-- `blocks::use_size` meets its contract.
-- Assumes nothing.
use mathlib.Core.Path.{ap, ◌∙◌}
use native.Mathlib.Omega.{arith}
use Rattle.sizing.specs.Sums.{multiple}
use Rattle.sizing.proofs.laws.Limits.{fits-multiple, or-within}
use Rattle.sizing.specs.Blocks.{use_size}
use Rattle.sizing.proofs.blocks.use_size.Goals as goal

pub multiply-requires : goal.multiply-requires
multiply-requires c = fits-multiple _ 3073 _ (omega arith) (omega arith) (rw c.or_size-one.ensures (or-within c.args.users (omega arith)))

pub returns : goal.returns
unfolding use_size
returns c = c.multiply.ensures ∙ ap (λ s. multiple c.args.times s) c.or_size-one.ensures
