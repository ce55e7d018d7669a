use Prim.Native.Nat.{◌+◌}
use mathlib.Core.Path.{◌≡◌}
use native.Mathlib.Omega.{arith}
use Rattle.user_table.proofs.laws.Filled.{first_rows}
use Rattle.user_table.proofs.Filling.{filled_none}
use Rattle.user_table.proofs.users.fill_users.Goals as goal

pub loop-row-init : goal.loop-row-init
loop-row-init c = filled_none c.args.resources.now c.args.users.now c.requires.users_len c.requires.by_index

pub add_event-requires : goal.add_event-requires
add_event-requires c = let l = c.loop-row in
    let p = c.requires in record { row_bound = omega (arith, p.events_bound); event_rows = first_rows (l.row + 1) (omega arith) p.event_rows; filled = l.invariant }

pub loop-row-preserved : goal.loop-row-preserved
loop-row-preserved c = c.add_event.ensures

pub returns : goal.returns
returns c = let l = c.loop-row in
    let e : l.row ≡ c.args.events = omega arith in
    rw e at l.invariant
