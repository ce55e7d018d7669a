use lib.ListN.{drop}
use Rattle.digits.specs.Run.{Todo}
use Rattle.digits.specs.Store.{out, put}
use Rattle.digits.proofs.put_all.Given as goal

abbrev pub invariant-loop-x : goal.invariant-loop-x
invariant-loop-x g l = Todo put (drop l.x-index l.xs) l.xs (out l.at l.initial.output) (out l.p l.output)
