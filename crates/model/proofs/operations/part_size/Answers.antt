-- `operations::part_size` meets its contract: there are at most 128,000 cells.
use borrow.Author.Rules.{rules}
use Prim.Native.Nat.{ℕ, ◌*◌, ◌≤◌}
use native.Mathlib.Omega.{arith}
use native.Mathlib.Nat.{mul-le-mul}
use Rattle.model.proofs.operations.part_size.Goals as goal

few : (events times : ℕ) → events ≤ 1024 → times ≤ 125 → events * times ≤ 128000
few events times e t = omega (arith, mul-le-mul {n₁ = events} {m₁ = times} {n₂ = 1024} {m₂ = 125} e t)

pub overflow_mul-cells : goal.overflow_mul-cells
overflow_mul-cells c = let p = c.requires in omega (arith, few _ _ p.events_high p.times_high)

pub overflow_mul-result : goal.overflow_mul-result
overflow_mul-result c = let p = c.requires in omega (arith, few _ _ p.events_high p.times_high)
