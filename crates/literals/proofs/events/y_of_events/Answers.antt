use mathlib.Core.Path.{refl, ◌∙◌}
use native.Mathlib.Omega.{arith}
use Rattle.parsing.proofs.laws.Each.{each_at}
use lib.ListN.{length-set}
use Rattle.literals.proofs.Turns.{mapped-none, mapped_more, mapped_all}
use Rattle.literals.proofs.events.y_of_events.Goals as goal

pub loop-k-init : goal.loop-k-init
loop-k-init c = (refl, mapped-none _ _ _ 0 (omega arith))

pub base-b-requires : goal.base-b-requires
base-b-requires c = (omega arith, (omega arith, rw c.from.ensures (each_at c.loop-k.k 0 c.requires.0 c.loop-k-test.true)))

pub literal-requires : goal.literal-requires
literal-requires c = omega (arith, c.base-b.ensures.small)

pub loop-k-preserved : goal.loop-k-preserved
loop-k-preserved c = let l = c.loop-k in (simp length-set l.invariant.0, mapped_more l.invariant.1 _ (c.literal.ensures ∙ rw (c.base-b.ensures.value, c.from.ensures)) (omega arith) (omega (arith, l.invariant.0)) refl)

pub returns : goal.returns
returns c = let l = c.loop-k in mapped_all l.invariant.1 _ (omega arith) (omega arith)
