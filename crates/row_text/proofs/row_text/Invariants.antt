use mathlib.Core.Path.{◌≡◌}
use mathlib.Core.List.{flat_map}
use Prim.Native.Nat.{◌+◌, ◌-◌, ◌*◌, ◌≤◌}
use lib.ListN.{length}
use Rattle.scope.specs.Text.{line}
use Rattle.sink.specs.Run.{out, put, Todo}
use Rattle.row_words.proofs.RowLines.{cells_from}
use Rattle.row_text.proofs.row_text.Given as goal

abbrev pub invariant-loop-j : goal.invariant-loop-j
invariant-loop-j l = (l.p + 139 * (l.cols - l.j) ≤ length l.initial.text) × (l.before.value ≡ l.prev + (l.j - 1)) × (l.below.value ≡ l.first + (l.j - 1))
    × Todo put (flat_map (line l.top) (cells_from l.x 1 l.prev l.first l.cols l.j)) (flat_map (line l.top) (cells_from l.x 1 l.prev l.first l.cols 1)) (out l.initial.p l.initial.text) (out l.p l.text)
