-- `idle::length_of_idle` meets its contract. The loop's invariant: the sum, and what the groups still to be looked
-- at come to, are the whole; a group has at most 125 members.
use Prim.Native.Nat.{◌+◌, ◌*◌, ◌≤◌}
use mathlib.Core.Path.{◌≡◌}
use lib.ListN.{drop}
use Rattle.number.specs.Lists.{leading}
use Rattle.constraint_end.specs.Inner.{inner_rows}
use Rattle.constraint_end.proofs.idle.length_of_idle.Given as goal

abbrev pub invariant-loop-i : goal.invariant-loop-i
invariant-loop-i l = (l.sum ≤ 125 * l.i) × (inner_rows l.groups (leading l.count l.list) ≡ l.sum + inner_rows l.groups (drop l.i (leading l.count l.list)))
