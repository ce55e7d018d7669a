-- `literals::gate::outputs` meets its contract. The loop's invariant: v is the next variable, the words are the literals of
-- those before it.
use Prim.Native.Nat.{◌+◌, ◌*◌}
use mathlib.Core.Path.{◌≡◌}
use mathlib.Core.List.{◌++◌}
use lib.ListN.{length, take}
use Rattle.literals.specs.Words.{Holds}
use Rattle.literals.specs.Outputs.{every}
use Rattle.literals.proofs.gate.outputs.Given as goal

abbrev pub invariant-loop-k : goal.invariant-loop-k
invariant-loop-k l = (l.v ≡ l.first + l.step * l.k) × (length l.out ≡ length l.initial.out) × Holds l.out (l.at + l.k) (take l.at l.initial.out ++ every l.step l.first l.k)
