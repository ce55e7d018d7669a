-- `sums::multiply` meets its contract: no product wraps, since the whole fits.
-- Assumes nothing.
use mathlib.Core.Path.{refl}
use native.Mathlib.Omega.{arith}
use Rattle.sizing.specs.Sums.{multiple}
use Rattle.sizing.proofs.sums.multiply.Goals as goal

pub overflow_mul-result : goal.overflow_mul-result
unfolding multiple
overflow_mul-result c = omega arith

pub overflow_mul-result-2 : goal.overflow_mul-result-2
unfolding multiple
overflow_mul-result-2 c = omega arith

pub overflow_mul-result-3 : goal.overflow_mul-result-3
unfolding multiple
overflow_mul-result-3 c = omega arith

pub overflow_mul-result-4 : goal.overflow_mul-result-4
unfolding multiple
overflow_mul-result-4 c = omega arith

pub overflow_mul-result-5 : goal.overflow_mul-result-5
unfolding multiple
overflow_mul-result-5 c = omega arith

pub returns : goal.returns
unfolding multiple
returns c = refl
