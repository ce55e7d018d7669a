-- `plain_lists::clash::fill_clash` meets its contract.
use mathlib.Core.List.{[]}
use Rattle.plain_lists.proofs.laws.Plain.{clash_plain}
use Rattle.user_table.specs.Filled.{users_at}
use Rattle.user_table.proofs.laws.Filled.{users-few}
use native.Mathlib.Omega.{arith}
use Rattle.plain_lists.proofs.clash.fill_clash.Goals as goal

pub y_of_events-k-requires : goal.y_of_events-k-requires
y_of_events-k-requires c = let p = c.requires in
    rw c.users_of-events.ensures (p.0.within c.args.f.resource, (omega (arith, users-few p.0 c.args.f.resource), (p.1.1.0, omega (arith, p.1.1.1.0.high))))

pub returns : goal.returns
returns c = let a = c.args in
    rw c.plain.ensures
    (clash_plain a.head [] (users_at a.users.now) [] a.f.resource a.t c.requires.1.1.1.0 (rw c.users_of-events.ensures at c.y_of_events-k.ensures))
