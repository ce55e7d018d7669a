-- `user_table::users::push` meets its contract.
use native.Mathlib.Omega.{arith}
use lib.ListN.{length-set}
use Rattle.user_table.proofs.users.push.Goals as goal

pub bounds-users-at-3 : goal.bounds-users-at-3
bounds-users-at-3 c = simp length-set (omega arith)
