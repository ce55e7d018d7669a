-- `deviation::precedence::last_taken` meets its contract. None of the times passed is taken, so the last that is taken is left.
use Rattle.deviation.proofs.laws.Gap.{NoneAfter}
use Rattle.deviation.proofs.precedence.last_taken.Given as goal

abbrev pub invariant-loop-t : goal.invariant-loop-t
invariant-loop-t l = NoneAfter l.fn.head.times l.bytes l.event l.t
