-- `fields::list::list_at` meets its contract. The loop's invariant: the list is what the members stored so far and the
-- references still to be read come to.
use Prim.Native.Nat.{◌≤◌}
use mathlib.Core.Path.{◌≡◌}
use lib.ListN.{length}
use Rattle.scope.specs.Number.{listed}
use Rattle.number.proofs.laws.Lists.{left_after}
use Rattle.fields.proofs.list.list_at.Given as goal

abbrev pub invariant-loop-i : goal.invariant-loop-i
invariant-loop-i l = (l.count ≤ l.n) × (length l.list ≡ length l.initial.list) × (listed l.n l.s l.at ≡ left_after 0 l.list l.i l.count l.before l.n l.s l.next)
