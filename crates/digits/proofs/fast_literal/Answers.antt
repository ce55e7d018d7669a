use native.Mathlib.Omega.{arith}
use lib.ListN.{length-set}
use Rattle.digits.proofs.Literal.{literal-ran}
use Rattle.digits.proofs.fast_literal.Goals as goal

pub returns-then-v-lt10000000 : goal.returns-then-v-lt10000000
returns-then-v-lt10000000 c = record { ran = c.put_spelled_literal.ensures.ran; upper_bound = omega arith }

pub fast_number-b-requires : goal.fast_number-b-requires
fast_number-b-requires c = simp length-set (omega arith)

pub returns : goal.returns
returns c = record { ran = literal-ran c.args.l c.args.at _ _ _ (omega arith) (omega arith) c.fast_number-b.ensures.ran; upper_bound = omega arith }
