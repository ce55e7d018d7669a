-- `deviation::subevents::count_wanted` meets its contract. The walk knows the run and the count of the times that it has passed.
use Prim.Native.Nat.{◌+◌, ◌≤◌}
use Rattle.deviation.specs.Subevents.{is_wanted}
use Rattle.deviation.proofs.laws.Subevents.{Walked}
use Rattle.deviation.proofs.subevents.count_wanted.Given as goal

abbrev pub invariant-loop-i : goal.invariant-loop-i
invariant-loop-i l = (l.w.count + l.w.run + l.i ≤ l.n) × Walked l.n l.bytes l.takes l.starts (is_wanted l.wanted) l.i l.w
