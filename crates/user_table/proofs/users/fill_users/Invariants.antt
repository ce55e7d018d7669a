-- `user_table::users::fill_users` meets its contract. The loop's invariant: the table holds the users among the events passed.
use Rattle.user_table.specs.Users.{users_in}
use Rattle.user_table.specs.Filled.{Filled}
use Rattle.user_table.proofs.users.fill_users.Given as goal

abbrev pub invariant-loop-row : goal.invariant-loop-row
invariant-loop-row l = Filled l.users (users_in l.resources l.row)
