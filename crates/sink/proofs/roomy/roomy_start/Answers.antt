use native.Mathlib.Omega.{arith}
use Rattle.sink.proofs.roomy.roomy_start.Goals as goal

pub returns-then-first : goal.returns-then-first
returns-then-first c = record { text_after = rw c.if-first.true c.put_spelled.ensures.ran.eq; upper_bound = omega arith }

pub returns : goal.returns
returns c = record { text_after = rw c.if-first.false; upper_bound = omega arith }
