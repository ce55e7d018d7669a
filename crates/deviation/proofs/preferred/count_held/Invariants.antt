-- `deviation::preferred::count_held` meets its contract. The walk knows whether the last time passed is held and how many were.
use Prim.Native.Nat.{ℕ, ◌*◌, ◌≤◌}
use mathlib.Core.Bool.{Bool}
use Rattle.deviation.specs.Held.{Flagged}
use Rattle.deviation.proofs.laws.Held.{Counted}
use Rattle.deviation.proofs.preferred.count_held.Given as goal

abbrev pub invariant-loop-i : goal.invariant-loop-i
invariant-loop-i l = (l.held ≤ 255) × (l.count ≤ 255 * l.i) × ((such : ℕ → Bool) → Flagged such l.flags → Counted l.n l.bytes l.takes l.starts such l.i l.count l.held)
