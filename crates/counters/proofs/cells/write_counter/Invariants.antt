use Prim.Native.Nat.{◌+◌, ◌-◌, ◌*◌, ◌≤◌}
use lib.ListN.{length, drop}
use Rattle.sink.specs.Run.{Todo}
use Rattle.sink.specs.World.{world, step}
use Rattle.row_words.proofs.laws.Rows.{counter_from}
use Rattle.counters.proofs.cells.write_counter.Given as goal

abbrev pub invariant-loop-l : goal.invariant-loop-l
invariant-loop-l l = (1 ≤ l.next) × (l.prev ≤ l.next) × (l.next + (length l.lits - l.l-index) * l.cols ≤ 1073741824)
    × Todo (step l.job l.model) (counter_from l.cols l.prev l.next (drop l.l-index l.lits)) (counter_from l.cols 0 l.first l.lits) (world l.initial.z l.initial.text l.initial.words) (world l.z l.text l.words)
