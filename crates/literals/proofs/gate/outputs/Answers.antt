use Prim.Native.Nat.{◌+◌}
use mathlib.Core.Path.{◌≡◌, refl}
use native.Mathlib.Omega.{arith}
use native.Mathlib.Nat.{mul-le-mul_left}
use lib.ListN.{length-set, take}
use Rattle.literals.specs.Outputs.{every}
use Rattle.literals.proofs.Turns.{next-output, holds-before}
use Rattle.literals.proofs.gate.outputs.Goals as goal

pub loop-k-init : goal.loop-k-init
unfolding every
loop-k-init c = (omega arith, refl, holds-before _ _ (omega arith))

pub overflow_mul-out : goal.overflow_mul-out
overflow_mul-out c = omega (arith, mul-le-mul_left {m = c.loop-k.k} {n = c.args.n} c.args.step (omega arith))

pub overflow_add-v : goal.overflow_add-v
overflow_add-v c = omega (arith, mul-le-mul_left {m = c.loop-k.k + 1} {n = c.args.n} c.args.step (omega arith))

pub loop-k-preserved : goal.loop-k-preserved
loop-k-preserved c = let l = c.loop-k in (omega arith, simp length-set l.invariant.1, next-output (take c.args.at c.args.out.now) _ _ l.k _ l.v l.out l.invariant.2 (omega (arith, l.invariant.1)) l.invariant.0 _ (omega arith))

pub returns : goal.returns
returns c = let l = c.loop-k in let e : l.k ≡ c.args.n = omega arith in rw e at l.invariant.2
