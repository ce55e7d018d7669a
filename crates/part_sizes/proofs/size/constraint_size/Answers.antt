-- `size::constraint_size` meets its contract: its lists are alike.
use mathlib.Core.Path.{◌≡◌}
use native.Mathlib.Omega.{arith}
use lib.ListN.{length}
use Rattle.constraint.specs.Answers.{kind_of}
use Rattle.user_table.specs.Filled.{users_at}
use Rattle.literals.specs.Tables.{group_in, duration_in}
use Rattle.list_nodes.specs.Stored.{counted_in}
use Rattle.part_sizes.proofs.laws.Sizable.{sizable_shape, times_fits, times_sized}
use Rattle.part_sizes.proofs.size.constraint_size.Goals as goal

pub multiply-requires : goal.multiply-requires
multiply-requires c = let a = c.args in
    let p = c.requires in
    let k = counted_in a.durations.now (users_at a.users.now) a.groups.now a.head (kind_of a.list.now a.c.kind) in
    let n : c.lists-most.result ≡ length k.lists = c.lists-most.ensures.eq (duration_in a.head.events a.durations.now) (users_at a.users.now) (group_in a.head.groups a.groups.now) a.list.now in
    times_fits a.c.weight k c.first_size-one.ensures (omega (arith, n, p.0.few))

pub returns : goal.returns
returns c = let a = c.args in
    let p = c.requires in
    let k = counted_in a.durations.now (users_at a.users.now) a.groups.now a.head (kind_of a.list.now a.c.kind) in
    let n : c.lists-most.result ≡ length k.lists = c.lists-most.ensures.eq (duration_in a.head.events a.durations.now) (users_at a.users.now) (group_in a.head.groups a.groups.now) a.list.now in
    times_sized a.c.weight k c.first_size-one.ensures (omega (arith, n, p.0.few)) (sizable_shape p.0) n (omega (arith, n, p.0.some)) (rw c.from.ensures at c.multiply.ensures)
