use mathlib.Core.List.{flat_map}
use native.Mathlib.Omega.{arith}
use Rattle.sink.specs.Run.{none, then}
use Rattle.row_text.proofs.CellLines.{half-opposite}
use Rattle.row_text.proofs.low_cell.Goals as goal

pub pair_line-q-requires : goal.pair_line-q-requires
pair_line-q-requires c = let e = half-opposite c.args.x c.opposite.ensures in
    (omega arith, omega arith, omega (arith, c.pair_line-p.ensures.upper_bound))

pub returns : goal.returns
unfolding flat_map
returns c = record { ran = then c.pair_line-p.ensures.ran (then (rw c.opposite.ensures at c.pair_line-q.ensures.ran) (then c.triple_line.ensures.ran none)); upper_bound = omega (arith, c.pair_line-p.ensures.upper_bound, c.pair_line-q.ensures.upper_bound, c.triple_line.ensures.upper_bound) }
