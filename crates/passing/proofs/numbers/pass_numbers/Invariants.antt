use Rattle.std.proofs.Common.{◌≡◌, ◌-◌, suc, length}
use Rattle.passing.proofs.Turns.{Going}
use Rattle.passing.proofs.numbers.pass_numbers.Given as goal

abbrev pub invariant-loop-n : goal.invariant-loop-n
invariant-loop-n l = record { bytes_same : l.r.bytes.now ≡ l.proof; going : Going l.proof l.at l.r.at }

abbrev pub decreases-loop-n : goal.decreases-loop-n
decreases-loop-n l = suc (length l.proof - l.r.at)
