use mathlib.Core.Path.{◌≡◌, refl}
use Prim.Native.Nat.{◌-◌, ◌≤◌, ◌<◌}
use native.Mathlib.Omega.{arith}
use lib.ListN.{length}
use Rattle.constraint.specs.Answers.{kind_of}
use Rattle.sink.specs.World.{world, step}
use Rattle.user_table.specs.Filled.{users_at}
use Rattle.literals.specs.Tables.{group_in, duration_in}
use Rattle.literals.specs.Numbered.{all_numbered}
use Rattle.list_nodes.specs.Stored.{counted_in}
use Rattle.items.proofs.laws.Lists.{lists-end}
use Rattle.items.specs.Written.{Left, left_start, left_room, left_end}
use Rattle.clauses.proofs.ListTurn.{lists_left, none_left, list_fillable, list_stored, list_turn}
use borrow.Author.Rules.{rules}
use Rattle.clauses.proofs.lists.write_lists.Goals as goal

pub loop-t-init : goal.loop-t-init
loop-t-init c = let p = c.requires in (refl, refl, p.2, p.1.some, left_start refl)

pub fill-f-requires : goal.fill-f-requires
fill-f-requires c = let a = c.args in
    let p = c.requires in
    let l = c.loop-t in
    let k = kind_of a.list.now a.c.kind in
    let g : l.t < length (counted_in a.durations.now (users_at a.users.now) a.groups.now a.head k).lists = omega (arith, c.loop-t-test.true, c.lists-n.ensures.eq (duration_in a.head.events a.durations.now) (users_at a.users.now) (group_in a.head.groups a.groups.now) a.list.now) in
    list_fillable a.durations.now a.users.now a.groups.now a.head k l.t g a.c.weight l.next c.bounds_of-b.result (c.bounds_of-b.ensures a.list.now) a.list.now p.0 (left_room l.invariant.3 l.invariant.4 p.1) l.invariant.2

pub write_list-w-requires : goal.write_list-w-requires
write_list-w-requires c = let a = c.args in
    let p = c.requires in
    let l = c.loop-t in
    let k = kind_of a.list.now a.c.kind in
    let g : l.t < length (counted_in a.durations.now (users_at a.users.now) a.groups.now a.head k).lists = omega (arith, c.loop-t-test.true, c.lists-n.ensures.eq (duration_in a.head.events a.durations.now) (users_at a.users.now) (group_in a.head.groups a.groups.now) a.list.now) in
    list_stored a.durations.now a.users.now a.groups.now a.head k l.t g a.c.weight l.next c.bounds_of-b.result (c.bounds_of-b.ensures a.list.now) a.list.now p.0 (left_room l.invariant.3 l.invariant.4 p.1) l.store l.invariant.2 c.fill-f.ensures

pub loop-t-preserved : goal.loop-t-preserved
loop-t-preserved c = let a = c.args in
    let p = c.requires in
    let l = c.loop-t in
    let k = kind_of a.list.now a.c.kind in
    let g : l.t < length (counted_in a.durations.now (users_at a.users.now) a.groups.now a.head k).lists = omega (arith, c.loop-t-test.true, c.lists-n.ensures.eq (duration_in a.head.events a.durations.now) (users_at a.users.now) (group_in a.head.groups a.groups.now) a.list.now) in
    let n = list_turn a.durations.now a.users.now a.groups.now a.head k l.t g a.c.weight l.next c.bounds_of-b.result (c.bounds_of-b.ensures a.list.now) a.list.now p.0 (left_room l.invariant.3 l.invariant.4 p.1) l.store l.invariant.2 c.fill-f.ensures {f = step a.job a.model.now} {x = world l.sink l.text l.words} l.invariant.4 c.write_list-w.ensures in (
      search rules,
      search rules,
      search rules,
      n.0,
      n.1,
    )

pub returns : goal.returns
returns c = let a = c.args in
    let l = c.loop-t in
    let k = kind_of a.list.now a.c.kind in
    let e : length (counted_in a.durations.now (users_at a.users.now) a.groups.now a.head k).lists ≤ l.t = omega (arith, c.loop-t-test.false, c.lists-n.ensures.eq (duration_in a.head.events a.durations.now) (users_at a.users.now) (group_in a.head.groups a.groups.now) a.list.now) in
    left_end (lists-end a.c.weight l.next (none_left a.durations.now a.users.now a.groups.now a.head k l.t e)) l.invariant.4
