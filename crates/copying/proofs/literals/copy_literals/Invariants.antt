use Rattle.std.proofs.Common.{◌≡◌, ◌-◌, suc, length}
use Rattle.copying.proofs.Copying.{Going}
use Rattle.copying.proofs.literals.copy_literals.Given as goal

abbrev pub invariant-loop-l : goal.invariant-loop-l
invariant-loop-l l = record { bytes_same : l.r.bytes.now ≡ l.proof; going : Going l.proof l.at l.fn.words l.first l.r.at l.to l.words }

abbrev pub decreases-loop-l : goal.decreases-loop-l
decreases-loop-l l = suc (length l.proof - l.r.at)
