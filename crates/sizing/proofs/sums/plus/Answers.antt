-- `sums::plus` meets its contract: no sum wraps, since the whole fits.
-- Assumes nothing.
use mathlib.Core.Path.{refl}
use native.Mathlib.Omega.{arith}
use Rattle.sizing.specs.Sums.{sum}
use Rattle.sizing.proofs.sums.plus.Goals as goal

pub overflow_add-result : goal.overflow_add-result
unfolding sum
overflow_add-result c = omega arith

pub overflow_add-result-2 : goal.overflow_add-result-2
unfolding sum
overflow_add-result-2 c = omega arith

pub overflow_add-result-3 : goal.overflow_add-result-3
unfolding sum
overflow_add-result-3 c = omega arith

pub overflow_add-result-4 : goal.overflow_add-result-4
unfolding sum
overflow_add-result-4 c = omega arith

pub overflow_add-result-5 : goal.overflow_add-result-5
unfolding sum
overflow_add-result-5 c = omega arith

pub returns : goal.returns
unfolding sum
returns c = refl
