use Rattle.std.proofs.Common.{◌≡◌, ◌-◌, suc, length}
use Rattle.spelling.proofs.Turns.{Going}
use Rattle.spelling.proofs.literals.read_literals.Given as goal

abbrev pub invariant-loop-l : goal.invariant-loop-l
invariant-loop-l l = record { bytes_same : l.r.bytes.now ≡ l.proof; going : Going l.proof l.last l.at l.fn.marks l.r.at l.size l.marks }

abbrev pub decreases-loop-l : goal.decreases-loop-l
decreases-loop-l l = suc (length l.proof - l.r.at)
