-- `number::number_at` meets its contract. The loop's invariant: the number at the offset is what the bytes passed and the
-- groups from i on come to; value and scale stay below 2^32. Each turn is a law of Turns.
use Prim.Native.Nat.{◌-◌, ◌≤◌, ◌<◌}
use mathlib.Core.Path.{◌≡◌}
use lib.ListN.{length, drop}
use Rattle.scope.specs.Number.{front, number as number_at}
use Rattle.number.proofs.Turns.{after, number_of}
use Rattle.number.proofs.number_at.Given as goal

abbrev pub invariant-loop-i : goal.invariant-loop-i
invariant-loop-i l = (l.at < l.i)
    × (l.value ≤ 4294967295)
    × (l.scale ≤ 4294967168)
    × (number_at l.s l.at ≡ number_of l.at (after l.value l.scale (l.i - l.at) (front (drop l.i l.s))))
