-- `handover::copy_front` meets its contract: the first i bytes of both are the same.
use Prim.Native.Nat.{◌≤◌}
use mathlib.Core.Path.{◌≡◌}
use lib.ListN.{length, take}
use Rattle.solver_text.proofs.handover.copy_front.Given as goal

abbrev pub invariant-loop-i : goal.invariant-loop-i
invariant-loop-i l = (length l.to ≡ length l.initial.to) × (l.i ≤ length l.initial.to) × (take l.i l.to ≡ take l.i l.from)
