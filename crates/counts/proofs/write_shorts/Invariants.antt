use Rattle.sink.specs.Run.{Todo}
use Rattle.sink.specs.World.{world, step, row_over}
use Rattle.counts.proofs.laws.UnitLines.{shorts_from}
use Rattle.counts.proofs.write_shorts.Given as goal

abbrev pub invariant-loop-i : goal.invariant-loop-i
invariant-loop-i l = Todo (step l.job l.model) (shorts_from l.weight (row_over l.q) l.v l.count l.i) (shorts_from l.weight (row_over l.q) l.v l.count 0) (world l.initial.z l.initial.text l.initial.words) (world l.z l.text l.words)
