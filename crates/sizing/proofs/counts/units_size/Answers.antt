-- `counts::units_size` meets its contract: by whether the weight is 0.
-- Assumes nothing.
use mathlib.Core.Path.{sym, ◌∙◌}
use native.Mathlib.Nat.{mul-le-mul}
use native.Mathlib.Omega.{arith}
use Rattle.sizing.proofs.laws.Sums.{equal}
use Rattle.sizing.proofs.laws.Counts.{units-hard, units-soft}
use Rattle.sizing.specs.Sums.{none}
use Rattle.sizing.proofs.counts.units_size.Goals as goal

pub returns-then-weight-eq0 : goal.returns-then-weight-eq0
unfolding none
returns-then-weight-eq0 c = rw c.nothing.ensures (equal (omega arith) ∙ sym (units-hard c.args.weight c.args.k (omega arith)))

pub overflow_mul-result : goal.overflow_mul-result
overflow_mul-result c = omega (arith, mul-le-mul c.requires.1 c.requires.0)

pub returns : goal.returns
unfolding none
returns c = rw c.nothing-2.ensures (sym (units-soft c.args.weight c.args.k (omega arith)))
