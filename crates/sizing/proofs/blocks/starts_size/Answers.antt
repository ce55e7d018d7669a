-- `blocks::starts_size` meets its contract: the products are small, and the words of an event at least 4.
-- Assumes nothing.
use Prim.Native.Nat.{◌-◌, ◌*◌, ◌≤◌}
use native.Mathlib.Omega.{arith}
use native.Mathlib.Nat.{mul-le-mul}
use Rattle.sizing.specs.Sums.{none, sum, multiple}
use Rattle.sizing.proofs.laws.Sums.{equal}
use Rattle.sizing.specs.Blocks.{start_clauses, starts_size}
use Rattle.sizing.proofs.blocks.starts_size.Goals as goal

pub overflow_mul-cells : goal.overflow_mul-cells
overflow_mul-cells c = omega (arith, mul-le-mul c.requires.0 c.requires.2)

pub overflow_mul-result : goal.overflow_mul-result
overflow_mul-result c = omega (arith, mul-le-mul c.requires.0 c.requires.2)

pub overflow_mul-result-2 : goal.overflow_mul-result-2
overflow_mul-result-2 c = omega (arith, mul-le-mul c.requires.0 c.requires.2)

pub overflow_mul-result-4 : goal.overflow_mul-result-4
overflow_mul-result-4 c = let k : 5 * c.args.times - 1 ≤ 624 = omega arith in omega (arith, mul-le-mul c.requires.0 k)

pub returns : goal.returns
unfolding starts_size start_clauses none sum multiple
returns c = rw c.nothing.ensures (equal (omega arith))
