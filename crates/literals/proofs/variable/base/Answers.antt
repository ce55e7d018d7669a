-- `literals::variable::base` meets its contract.
use mathlib.Core.Path.{refl}
use native.Mathlib.Omega.{arith}
use Rattle.literals.specs.Variables.{base_of}
use Rattle.literals.proofs.laws.Variables.{row_small}
use Rattle.literals.proofs.variable.base.Goals as goal

pub overflow_mul-result : goal.overflow_mul-result
overflow_mul-result c = omega (arith, row_small c.args.times c.args.k (omega arith) c.requires.1.1.high)

pub overflow_add-result : goal.overflow_add-result
overflow_add-result c = omega (arith, row_small c.args.times c.args.k (omega arith) c.requires.1.1.high)

pub returns : goal.returns
unfolding base_of
returns c = record { value = refl; small = omega (arith, row_small c.args.times c.args.k (omega arith) c.requires.1.1.high) }
