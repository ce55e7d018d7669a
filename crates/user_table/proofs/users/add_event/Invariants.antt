-- `user_table::users::add_event` meets its contract. The loop's invariant: the table holds the users among the events before,
-- and the event in the rows of the members passed.
use Prim.Native.Nat.{◌+◌}
use mathlib.Core.Path.{◌≡◌}
use lib.ListN.{length}
use Rattle.tables.specs.Rows.{row_at}
use Rattle.user_table.specs.Filled.{Filled}
use Rattle.user_table.proofs.Filling.{users_to}
use Rattle.user_table.proofs.users.add_event.Given as goal

abbrev pub invariant-loop-k : goal.invariant-loop-k
invariant-loop-k l = (l.n ≡ length (row_at l.resources l.row)) × (l.e ≡ l.row + 1) × Filled l.users (users_to l.resources l.row l.k)
