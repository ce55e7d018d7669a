-- What the C function timetable_idle_step says of a row that is drawn from left to right. `engine` proves that a call leaves
-- idle_step_of of what it was given.
use Prim.Native.Nat.{ℕ, ◌≤◌}
use mathlib.Core.Path.{◌≡◌, ◌∙◌}
use mathlib.Core.List.{List, map}
use lib.ListN.{length, take, length-take}
use native.Mathlib.Omega.{arith}
use Rattle.scope.specs.Idle.{idle_times, yes}
use Rattle.scope.specs.Demands.{kept_by_calls}
use Rattle.theory.proofs.laws.IdleWalk.{kept-idle}
use Rattle.theory.proofs.laws.Demands.{demand_idle}

-- called for one member after the other, the first time with 0, 0 and 0 and then with what the call before left, it leaves after the
-- k-th the number of idle times in the row cut off there
pub idle-so-far : (us : List ℕ) → length us ≤ 4294967295 → (k : ℕ) → (kept_by_calls (take k us)).0 ≡ idle_times (map yes (take k us))
idle-so-far us few k = demand_idle.calls (take k us) (omega (arith, length-take k us)) ∙ kept-idle (map yes (take k us))
