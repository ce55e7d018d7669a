-- `plain_lists::spread::fill_spread` meets its contract.
use Rattle.plain_lists.proofs.laws.Plain.{spread_plain}
use Rattle.list_nodes.proofs.laws.Ground.{ground_sizes, ground_group, ground_events, events_room}
use Rattle.literals.proofs.laws.Variables.{starts-block}
use Rattle.number.proofs.laws.Lists.{leading-take}
use mathlib.Core.Path.{sym}
use native.Mathlib.Omega.{arith}
use lib.Seq.{length-take-le}
use Rattle.list_nodes.proofs.GroupRows.{known-row}
use Rattle.plain_lists.proofs.spread.fill_spread.Goals as goal

pub slice_bounds-s_spread-end : goal.slice_bounds-s_spread-end
slice_bounds-s_spread-end c = let p = c.requires in
    sym (length-take-le c.args.f.events c.args.list.now (events_room p.0 c.args.list.now c.args.f.events p.1.1.0 p.1.0.0))

pub s_spread-k-requires : goal.s_spread-k-requires
s_spread-k-requires c = let a = c.args in
    let p = c.requires in
    let e = events_room p.0 a.list.now a.f.events p.1.1.0 p.1.0.0 in
    (rw (leading-take a.f.events a.list.now e) at (ground_events p.0 p.1.0.0), (ground_group p.0 p.1.0.1, (rw c.numbering-l.ensures (starts-block (ground_sizes p.0)), rw (length-take-le a.f.events a.list.now e) (omega (arith, p.1.1.1.0)))))

pub returns : goal.returns
returns c = let a = c.args in
    let p = c.requires in
    let e = events_room p.0 a.list.now a.f.events p.1.1.0 p.1.0.0 in
    let k = leading-take a.f.events a.list.now e in
    let g = known-row a.groups.now a.head a.f.group p.1.0.1 in
    rw c.plain.ensures
    (spread_plain a.head a.groups.now _ a.f.group a.f.lo a.f.hi (rw (g, k) (rw c.numbering-l.ensures at c.s_spread-k.ensures)))
