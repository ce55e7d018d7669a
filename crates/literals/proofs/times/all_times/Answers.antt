use mathlib.Core.Path.{◌≡◌, refl}
use native.Mathlib.Omega.{arith}
use lib.ListN.{length-set}
use Rattle.scope.specs.Kinds.{from}
use Rattle.literals.specs.Variables.{literal_at}
use Rattle.literals.proofs.laws.Words.{holds-none}
use Rattle.literals.proofs.Turns.{next-time}
use Rattle.literals.proofs.times.all_times.Goals as goal

pub loop-n-init : goal.loop-n-init
unfolding from
loop-n-init c = (refl, holds-none _)

pub loop-n-preserved : goal.loop-n-preserved
loop-n-preserved c = let l = c.loop-n in (simp length-set l.invariant.0, next-time (literal_at _) l.out l.n l.n _ l.invariant.1 refl (omega (arith, l.invariant.0)) c.literal.ensures)

pub returns : goal.returns
returns c = let l = c.loop-n in let e : l.n ≡ c.args.times = omega arith in rw e at l.invariant.1
