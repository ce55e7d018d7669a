use Prim.Native.Nat.{◌+◌, ◌-◌}
use Rattle.sink.specs.Run.{Todo}
use Rattle.sink.specs.World.{world, step, row_over}
use Rattle.counts.specs.UnitLines.{turned, units_from}
use Rattle.counts.proofs.write_units.Given as goal

abbrev pub invariant-loop-i : goal.invariant-loop-i
invariant-loop-i l = Todo (step l.job l.model) (units_from l.weight (λ j. turned l.high (row_over l.q j)) (l.start + l.i) (l.count - l.i)) (units_from l.weight (λ j. turned l.high (row_over l.q j)) l.start l.count)
    (world l.initial.z l.initial.text l.initial.words) (world l.z l.text l.words)
