use Rattle.building.proofs.Building.{Passing}
use Rattle.building.proofs.unmark.Given as goal

abbrev pub invariant-loop-i : goal.invariant-loop-i
invariant-loop-i l = Passing l.initial.words l.words l.first l.end l.i
