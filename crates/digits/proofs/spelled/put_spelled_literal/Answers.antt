use native.Mathlib.Omega.{arith}
use lib.ListN.{length-set}
use Rattle.digits.proofs.Literal.{signed-ran}
use Rattle.digits.proofs.spelled.put_spelled_literal.Goals as goal

pub put_spelled-requires : goal.put_spelled-requires
put_spelled-requires c = simp length-set (omega arith)

pub returns : goal.returns
returns c = record { ran = signed-ran c.args.l c.args.at c.args.text.now (omega arith) (rw c.requires.0 at c.put_spelled.ensures.ran); upper_bound = omega arith }
