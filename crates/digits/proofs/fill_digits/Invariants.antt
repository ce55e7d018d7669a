use Prim.Native.Nat.{◌≤◌, ◌-◌}
use mathlib.Core.Path.{◌≡◌}
use lib.ListN.{length}
use lib.Seq.{sets}
use Rattle.digits.specs.Decimal.{last_digits}
use Rattle.digits.proofs.fill_digits.Given as goal

abbrev pub invariant-loop-i : goal.invariant-loop-i
invariant-loop-i l = (l.at ≤ l.i) × (l.i ≤ l.end) × (length l.text ≡ length l.initial.text)
    × (sets l.text l.at (last_digits (l.i - l.at) l.x) ≡ sets l.initial.text l.at (last_digits (l.end - l.at) l.v))

abbrev pub decreases-loop-i : goal.decreases-loop-i
decreases-loop-i l = l.i - l.at
