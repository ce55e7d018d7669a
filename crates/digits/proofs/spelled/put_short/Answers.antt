use native.Mathlib.Omega.{arith}
use lib.ListN.{length-set}
use Rattle.digits.proofs.Spelling.{short-ran}
use Rattle.digits.proofs.spelled.put_short.Goals as goal

pub bounds-text-at-2 : goal.bounds-text-at-2
bounds-text-at-2 c = simp length-set (omega arith)

pub bounds-text-end : goal.bounds-text-end
bounds-text-end c = simp length-set (omega arith)

pub returns : goal.returns
returns c = record { ran = short-ran c.args.at c.args.text.now c.args.n.spelt c.requires.0 (omega arith); upper_bound = omega arith }
