use Prim.Native.Nat.{◌/◌}
use native.Mathlib.Omega.{arith}
use Rattle.digits.proofs.laws.Decimal.{digits-most}
use Rattle.digits.proofs.Literal.{literal-length}
use Rattle.digits.proofs.literal_size.Goals as goal

pub overflow_add-result : goal.overflow_add-result
overflow_add-result c = omega (arith, digits-most 9 19 (c.args.l / 2) (omega arith))

pub overflow_add-result-2 : goal.overflow_add-result-2
overflow_add-result-2 c = omega (arith, digits-most 9 19 (c.args.l / 2) (omega arith))

pub returns : goal.returns
returns c = omega (arith, literal-length c.args.l)
