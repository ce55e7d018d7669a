use Rattle.list_nodes.proofs.RunNodes.{negated-none, negated-more}
use lib.ListN.{length-set, take}
use native.Mathlib.Omega.{arith}
use native.Mathlib.Nat.{add-zero}
use mathlib.Core.Path.{◌≡◌, refl}
use Prim.Native.Nat.{◌+◌}
use Rattle.list_nodes.proofs.run.negated.Goals as goal

pub loop-k-init : goal.loop-k-init
loop-k-init c = (refl, rw add-zero (negated-none c.args.first c.args.out.now c.args.at (omega arith)))

pub loop-k-preserved : goal.loop-k-preserved
loop-k-preserved c = let l = c.loop-k in
    let a = c.args in
    let e : a.at + (l.k + 1) ≡ a.at + l.k + 1 = omega arith in
    (simp length-set l.invariant.0, rw e (negated-more (take a.at a.out.now) a.first l.k l.invariant.1 (omega (arith, l.invariant.0)) (a.first + l.k) refl))

pub returns : goal.returns
returns c = let l = c.loop-k in
    let e : l.k ≡ c.args.n = omega arith in record { holds = rw e at l.invariant.1; value = refl }
