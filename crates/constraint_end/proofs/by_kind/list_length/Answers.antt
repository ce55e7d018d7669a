-- `constraint_end::by_kind::list_length` meets its contract. Each case hands its part of what is known to the function of its kind.
use Prim.Native.Nat.{◌≤◌}
use mathlib.Core.Path.{◌∙◌}
use native.Mathlib.Omega.{arith}
use Rattle.parsing.proofs.laws.Numbers.{ascending-length}
use Rattle.number.proofs.laws.Lists.{length-leading}
use Rattle.tables.proofs.laws.Laws.{group_row}
use Rattle.fields.specs.Made.{kind_from}
use Rattle.constraint_end.specs.Length.{list_length}
use Rattle.constraint_end.proofs.laws.Inner.{one_in, ascending-in, inner-rows}
use Rattle.constraint_end.proofs.by_kind.list_length.Goals as goal

pub length_of_clash-requires : goal.length_of_clash-requires
unfolding kind_from
length_of_clash-requires c = let p = c.requires in
    let v = rw c.in-Clash.is at p.in_range in
    omega (arith, v.high, p.ready)

pub group_size-requires : goal.group_size-requires
unfolding kind_from
group_size-requires c = let p = c.requires in
    let v = rw c.in-Unavailable.is at p.in_range in
    one_in _ _ _ p.ready.rows v.1

pub length_of_spread-requires : goal.length_of_spread-requires
unfolding kind_from
length_of_spread-requires c = let w = c.args.w in
    let v = rw c.in-Spread.is at c.requires.in_range in
    let l = ascending-length _ 0 _ v.0 (omega arith) in
    let m : w.list ≤ 2048 = omega (arith, l, length-leading w.list c.args.list.now, c.requires.ready.events) in
    (m, one_in _ _ _ c.requires.ready.rows v.1)

pub group_size-requires-in-Busy : goal.group_size-requires-in-Busy
unfolding kind_from
group_size-requires-in-Busy c = let p = c.requires in
    let v = rw c.in-Busy.is at p.in_range in
    one_in _ _ _ p.ready.rows v.1

pub length_of_idle-requires : goal.length_of_idle-requires
unfolding kind_from
length_of_idle-requires c = let w = c.args.w in
    let v = rw c.in-Idle.is at c.requires.in_range in
    let l = ascending-length _ 0 _ v.1 (omega arith) in
    let m : w.list ≤ 2048 = omega (arith, l, length-leading w.list c.args.list.now, c.requires.ready.numbers) in record { count_in_bounds = omega (arith, c.requires.ready.room); count_bound = m; each = ascending-in _ _ 0 _ c.requires.ready.rows v.1 }

pub returns-in-Unavailable : goal.returns-in-Unavailable
unfolding kind_from list_length
returns-in-Unavailable c = let v = rw c.in-Unavailable.is at c.requires.in_range in
    let g = group_row c.args.groups.now c.args.head.groups _ v.1.low v.1.high in
    rw (c.in-Unavailable.is, g) c.group_size.ensures

pub returns-in-Spread : goal.returns-in-Spread
unfolding kind_from list_length
returns-in-Spread c = let v = rw c.in-Spread.is at c.requires.in_range in
    let g = group_row c.args.groups.now c.args.head.groups _ v.1.low v.1.high in
    rw (c.in-Spread.is, g, length-leading) c.length_of_spread.ensures

pub returns-in-Busy : goal.returns-in-Busy
unfolding kind_from list_length
returns-in-Busy c = let v = rw c.in-Busy.is at c.requires.in_range in
    let g = group_row c.args.groups.now c.args.head.groups _ v.1.low v.1.high in
    rw (c.in-Busy.is, g) c.group_size-in-Busy.ensures

pub returns-in-Cluster : goal.returns-in-Cluster
unfolding kind_from list_length
returns-in-Cluster c = rw (c.in-Cluster.is, length-leading)

pub returns-in-Idle : goal.returns-in-Idle
unfolding kind_from list_length
returns-in-Idle c = let v = rw c.in-Idle.is at c.requires.in_range in
    rw c.in-Idle.is (c.length_of_idle.ensures ∙ inner-rows _ _ 0 _ v.1)
