use native.Mathlib.Omega.{arith}
use Prim.Native.Nat.{◌≤◌}
use lib.ListN.{length}
use Rattle.scope.specs.Text.{decimal}
use Rattle.digits.proofs.laws.Decimal.{digits-most}
use Rattle.digits.proofs.Literal.{number-ran}
use Rattle.digits.proofs.fast_number.Goals as goal

pub overflow_add-end : goal.overflow_add-end
overflow_add-end c = omega (arith, digits-most 9 19 c.args.v (omega arith))

pub fill_digits-requires : goal.fill_digits-requires
fill_digits-requires c = omega (arith, digits-most 9 19 c.args.v (omega arith))

pub returns : goal.returns
returns c = let few : length (decimal c.args.v) ≤ 10 = digits-most 9 19 c.args.v (omega arith) in record { ran = number-ran c.args.v _ _ _ c.count_digits.ensures (omega arith) c.fill_digits.ensures; upper_bound = omega arith }
