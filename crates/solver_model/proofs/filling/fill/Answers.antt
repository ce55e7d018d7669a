-- `filling::fill` meets its contract: 9, 10, then what is gathered at the front of the store.
use mathlib.Core.Path.{sym}
use native.Mathlib.Omega.{arith}
use lib.Seq.{length-take-le}
use Rattle.solver_model.proofs.laws.Filled.{filled_short, filled_wrong, filled_right}
use Rattle.solver_model.proofs.filling.fill.Goals as goal

pub returns-then-store-variables : goal.returns-then-store-variables
returns-then-store-variables c = filled_short _ _ _ _ c.if-store-variables.true

pub returns-then-model_length-variables : goal.returns-then-model_length-variables
returns-then-model_length-variables c = filled_wrong _ _ _ _ c.if-store-variables.false c.if-model_length-variables.true

pub slice_bounds-gather-end-2 : goal.slice_bounds-gather-end-2
slice_bounds-gather-end-2 c = sym (length-take-le _ _ (omega arith))

pub returns : goal.returns
returns c = filled_right _ _ _ _ c.if-store-variables.false c.if-model_length-variables.false _ c.gather.auto.store c.gather.ensures
