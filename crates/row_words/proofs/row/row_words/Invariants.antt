use mathlib.Core.List.{flat_map}
use Prim.Native.Nat.{◌+◌, ◌-◌, ◌*◌, ◌≤◌}
use lib.ListN.{length}
use Rattle.sink.specs.Block.{mark}
use Rattle.sink.specs.Run.{out, put, Todo}
use Rattle.row_words.proofs.RowLines.{cells_from}
use Rattle.row_words.proofs.row.row_words.Given as goal

abbrev pub invariant-loop-j : goal.invariant-loop-j
invariant-loop-j l = (l.p + 11 * (l.cols - l.j) ≤ length l.initial.words)
    × Todo put (flat_map mark (cells_from l.x l.w l.prev l.first l.cols l.j)) (flat_map mark (cells_from l.x l.w l.prev l.first l.cols 0)) (out l.at l.initial.words) (out l.p l.words)
