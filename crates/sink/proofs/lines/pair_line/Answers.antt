use native.Mathlib.Omega.{arith}
use Rattle.sink.specs.Run.{then, same}
use Rattle.sink.proofs.LineParts.{pair_parts}
use Rattle.sink.proofs.lines.pair_line.Goals as goal

pub returns : goal.returns
returns c = record { ran = same (pair_parts _ _ _) (then c.first_literal-p.ensures.ran c.last_literal.ensures.ran); upper_bound = omega arith }
