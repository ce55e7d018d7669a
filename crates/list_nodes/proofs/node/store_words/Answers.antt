use Rattle.list_nodes.proofs.Nodes.{copied_none, copied_more}
use Rattle.literals.proofs.laws.Words.{holds_as}
use lib.ListN.{length-set, take}
use native.Mathlib.Omega.{arith}
use mathlib.Core.Path.{◌≡◌, refl}
use Rattle.list_nodes.proofs.node.store_words.Goals as goal

pub loop-k-init : goal.loop-k-init
loop-k-init c = (omega arith, omega arith, omega arith, refl, copied_none c.args.row.now c.args.from c.args.out.now c.args.at (omega arith) (omega arith))

pub loop-k-preserved : goal.loop-k-preserved
loop-k-preserved c = let l = c.loop-k in
    let a = c.args in
    (omega arith, omega arith, omega arith, simp length-set l.invariant.3, copied_more a.row.now (take a.at a.out.now) a.from l.k l.invariant.4 l.invariant.0 (omega arith) (omega (arith, l.invariant.2, l.invariant.3)))

pub returns : goal.returns
returns c = let l = c.loop-k in let e : l.k ≡ c.args.to = omega arith in record { holds = holds_as (rw e) l.invariant.4; value = omega (arith, l.invariant.2) }
