use native.Mathlib.Omega.{arith}
use Rattle.digits.proofs.Spelling.{spelt-ran}
use Rattle.digits.proofs.spelled.put_spelled.Goals as goal

pub returns : goal.returns
returns c = let s = c.args.n.spelt in record { ran = spelt-ran c.args.at c.args.text.now s (omega arith) (omega arith) c.put_four.ensures c.put_four-2.ensures; upper_bound = omega (arith, s.most) }
