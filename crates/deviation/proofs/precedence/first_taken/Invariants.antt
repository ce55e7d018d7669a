-- `deviation::precedence::first_taken` meets its contract. None of the times passed is taken, so the first that is taken is left.
use Rattle.deviation.proofs.laws.Gap.{NoneBefore}
use Rattle.deviation.proofs.precedence.first_taken.Given as goal

abbrev pub invariant-loop-i : goal.invariant-loop-i
invariant-loop-i l = NoneBefore l.fn.head.times l.bytes l.event l.i
