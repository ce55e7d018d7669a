-- The walk over a group: what is kept so far, walked over the members left, comes to what is kept after the whole.
use Prim.Native.Nat.{ℕ, ◌+◌, ◌-◌, ◌<◌, ◌≤◌}
use mathlib.Core.Path.{◌≡◌, ap}
use mathlib.Core.List.{List, foldl}
use lib.ListN.{length, get_or, drop, drop_of_length-le}
use lib.Dec.{eqb}
use native.Mathlib.Omega.{arith}
use Rattle.scope.specs.Idle.{idle_step}
use Rattle.scope.specs.declared.Kept.{Kept}
use Rattle.theory.proofs.laws.IdleWalk.{step_adds}
use Rattle.timetable.specs.Bits.{marks}
use Rattle.deviation.specs.Group.{Inside}
use Rattle.deviation.proofs.laws.Group.{marks_next}

-- the turns of a walk over a row of n members, of which k were passed; the next is the time t
module _ {b row : List ℕ} {base k n t : ℕ} (size : n ≡ length row) (inside : Inside b base row) (h : k < n) (et : t ≡ get_or row k 0) where
  pub walk_more : (w v whole : Kept) → foldl idle_step w (marks b base (drop k row)) ≡ whole → w.idle + w.since ≤ k
      → v ≡ idle_step w (eqb (get_or b (base + (t - 1)) 0) 1)
      → (v.idle + v.since ≤ k + 1) × (foldl idle_step v (marks b base (drop (k + 1) row)) ≡ whole)
  walk_more w v whole so_far low e =
      (rw e (omega (arith, step_adds w (eqb (get_or b (base + (t - 1)) 0) 1))), rw e (rw (marks_next size inside h et) at so_far))

-- the end
module _ (b row : List ℕ) (base k n : ℕ) (size : n ≡ length row) (end : n ≤ k) where
  pub walk_end : (w whole : Kept) → foldl idle_step w (marks b base (drop k row)) ≡ whole → w.idle ≡ whole.idle
  walk_end w whole so_far = let l : length row ≤ k = omega arith in ap (λ v. v.idle) (rw (drop_of_length-le row l) at so_far)
