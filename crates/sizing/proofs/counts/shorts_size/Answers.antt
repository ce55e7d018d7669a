-- `counts::shorts_size` meets its contract: by whether the weight is 0.
-- Assumes nothing.
use mathlib.Core.Path.{sym}
use native.Mathlib.Nat.{mul-le-mul}
use native.Mathlib.Omega.{arith}
use Rattle.sizing.proofs.laws.Counts.{shorts-hard, shorts-soft}
use Rattle.sizing.specs.Sums.{none}
use Rattle.sizing.proofs.counts.shorts_size.Goals as goal

pub returns-then-weight-eq0 : goal.returns-then-weight-eq0
unfolding none
returns-then-weight-eq0 c = rw c.nothing.ensures (sym (shorts-hard c.args.weight c.args.k (omega arith)))

pub overflow_mul-result-4 : goal.overflow_mul-result-4
overflow_mul-result-4 c = omega (arith, mul-le-mul c.requires.1 c.requires.0)

pub returns : goal.returns
returns c = sym (shorts-soft _ _ (omega arith))
