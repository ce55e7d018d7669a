use Rattle.sink.specs.Run.{Todo}
use Rattle.sink.specs.World.{world, step}
use Rattle.row_words.proofs.laws.Rows.{row_from}
use Rattle.counters.proofs.cells.write_cells.Given as goal

abbrev pub invariant-loop-j : goal.invariant-loop-j
invariant-loop-j l = Todo (step l.job l.model) (row_from l.x l.w l.prev l.first l.cols l.j) (row_from l.x l.w l.prev l.first l.cols 0) (world l.initial.z l.initial.text l.initial.words) (world l.z l.text l.words)
