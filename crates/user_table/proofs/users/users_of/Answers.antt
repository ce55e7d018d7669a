-- `user_table::users::users_of` meets its contract.
use Prim.Native.Nat.{◌+◌, ◌*◌, ◌-◌}
use mathlib.Core.Path.{◌≡◌}
use native.Mathlib.Omega.{arith}
use lib.ListN.{get_or}
use Rattle.user_table.specs.Filled.{users_at}
use Rattle.user_table.proofs.users.users_of.Goals as goal

pub returns : goal.returns
unfolding users_at
returns c = let at = c.args.r * 1025 in
    let n = get_or c.args.users.now at 0 in
    let e : at + 1 + n - (at + 1) ≡ n = omega arith in rw e
