use mathlib.Core.Path.{refl, ◌∙◌}
use native.Mathlib.Omega.{arith}
use lib.ListN.{length-set}
use Rattle.literals.proofs.Turns.{mapped-none, mapped_more, mapped_all}
use Rattle.literals.proofs.times.group_times.Goals as goal

pub loop-k-init : goal.loop-k-init
loop-k-init c = (c.row_len-size.ensures, refl, mapped-none _ _ _ _ (omega arith))

pub loop-k-preserved : goal.loop-k-preserved
loop-k-preserved c = let l = c.loop-k in (
  l.invariant.0,
  simp length-set l.invariant.1,
  mapped_more l.invariant.2 _ (c.literal.ensures ∙ rw (c.from.ensures, c.row_member.ensures)) (omega (arith, l.invariant.0)) (omega (arith, l.invariant.0, l.invariant.1)) (omega arith),
)

pub returns : goal.returns
returns c = let l = c.loop-k in mapped_all l.invariant.2 _ (omega (arith, l.invariant.0)) (omega (arith, l.invariant.0))
