use mathlib.Core.List.{flat_map}
use native.Mathlib.Omega.{arith}
use Rattle.sink.specs.Run.{none, then}
use Rattle.row_text.proofs.lower_lines.Goals as goal

pub returns : goal.returns
unfolding flat_map
returns c = record { ran = then c.triple_line-p.ensures.ran (then c.triple_line.ensures.ran none); upper_bound = omega (arith, c.triple_line-p.ensures.upper_bound, c.triple_line.ensures.upper_bound) }
