-- `plain_lists::split::fill_split` meets its contract.
use Rattle.plain_lists.proofs.laws.Plain.{split_plain}
use Rattle.list_nodes.proofs.laws.Ground.{head-sizes}
use Rattle.literals.proofs.laws.Variables.{starts-block}
use native.Mathlib.Omega.{arith}
use mathlib.Core.List.{[]}
use Rattle.plain_lists.proofs.split.fill_split.Goals as goal

pub s_of_event-n-requires : goal.s_of_event-n-requires
s_of_event-n-requires c = let p = c.requires in
    let o = p.1.0.0 in
    (rw c.numbering-l.ensures (starts-block (head-sizes p.0)), (record { low = o.low; high = omega (arith, o.high, p.0.events) }, omega (arith, p.0.times)))

pub returns : goal.returns
returns c = let a = c.args in
    rw c.plain.ensures
    (split_plain a.head [] a.f.event a.f.lo a.f.hi (rw c.numbering-l.ensures at c.s_of_event-n.ensures))
