use mathlib.Core.Path.{sym, ap}
use native.Mathlib.Omega.{arith}
use lib.ListN.{length}
use Rattle.digits.proofs.laws.Decimal.{digits-small, digits-length}
use Rattle.digits.proofs.count_digits.Goals as goal

pub returns-then-v-lt10 : goal.returns-then-v-lt10
returns-then-v-lt10 c = sym (ap length (digits-small 19 c.args.v (omega arith)))

pub returns : goal.returns
returns c = let p = c.ilog10.ensures in
    omega (arith, digits-length c.ilog10.result 19 c.args.v (omega arith) p.power_le (omega arith))
