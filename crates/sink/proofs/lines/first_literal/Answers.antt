use native.Mathlib.Omega.{arith}
use Rattle.sink.specs.Run.{then}
use Rattle.sink.proofs.lines.first_literal.Goals as goal

pub returns : goal.returns
returns c = record { ran = then c.put_spelled-p.ensures.ran c.put_spelled_literal.ensures.ran; upper_bound = omega arith }
