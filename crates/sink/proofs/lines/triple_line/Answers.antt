use native.Mathlib.Omega.{arith}
use Rattle.sink.specs.Run.{then, same}
use Rattle.sink.proofs.LineParts.{triple-parts}
use Rattle.sink.proofs.lines.triple_line.Goals as goal

pub returns : goal.returns
returns c = record { ran = same (triple-parts _ _ _ _) (then (then c.first_literal-p.ensures.ran c.put_spelled_literal-q.ensures.ran) c.last_literal.ensures.ran); upper_bound = omega arith }
