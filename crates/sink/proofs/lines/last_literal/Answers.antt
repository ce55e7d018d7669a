use native.Mathlib.Omega.{arith}
use Rattle.sink.specs.Run.{then}
use Rattle.sink.proofs.lines.last_literal.Goals as goal

pub returns : goal.returns
returns c = record { ran = then c.put_spelled_literal-p.ensures.ran c.end_line.ensures.ran; upper_bound = omega arith }
