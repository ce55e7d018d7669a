use mathlib.Core.Path.{◌≡◌}
use Prim.Native.Nat.{◌≤◌}
use native.Mathlib.Omega.{arith}
use lib.ListN.{length}
use Rattle.scope.specs.Text.{decimal}
use Rattle.digits.proofs.laws.Decimal.{digits-most}
use Rattle.digits.proofs.Literal.{size-ran}
use Rattle.digits.proofs.number_size.Goals as goal

pub returns-then-n-lt4294967296 : goal.returns-then-n-lt4294967296
returns-then-n-lt4294967296 c = (c.count_digits.ensures, omega (arith, digits-most 9 19 c.args.n (omega arith)))

pub returns : goal.returns
returns c = let n = c.args.n in
    let few : length (decimal n) ≤ 20 = digits-most 19 19 n (omega arith) in
    let e : c.put_number.result ≡ length (decimal n) = size-ran (decimal n) _ _ _ (omega arith) c.put_number.ensures in
    (e, omega arith)
