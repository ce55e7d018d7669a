-- `items::write_counted` meets its contract.
use native.Mathlib.Omega.{arith}
use Rattle.items.proofs.laws.Counted.{counted_gates, counted_wrote}
use Rattle.items.proofs.write_counted.Goals as goal

pub write_count-sink-requires : goal.write_count-sink-requires
write_count-sink-requires c = let a = c.args in
    let p = c.requires in
    let g = counted_gates a.weight a.b a.lits.now a.v _ _ c.min-hi.ensures c.columns-cols.ensures in
    (p.0, p.1.1.1.some, omega (arith, g, p.1.0, p.1.1.1.small), p.1.1.0)

pub overflow_mul-next : goal.overflow_mul-next
overflow_mul-next c = let a = c.args in
    let p = c.requires in
    let g = counted_gates a.weight a.b a.lits.now a.v _ _ c.min-hi.ensures c.columns-cols.ensures in
    omega (arith, g, p.1.1.1.small)

pub overflow_add-next : goal.overflow_add-next
overflow_add-next c = let a = c.args in
    let p = c.requires in
    let g = counted_gates a.weight a.b a.lits.now a.v _ _ c.min-hi.ensures c.columns-cols.ensures in
    omega (arith, g, p.1.1.1.small)

pub overflow_add-next-2 : goal.overflow_add-next-2
overflow_add-next-2 c = let a = c.args in
    let p = c.requires in
    let g = counted_gates a.weight a.b a.lits.now a.v _ _ c.min-hi.ensures c.columns-cols.ensures in
    omega (arith, g, p.1.1.1.small, c.shorts.ensures)

pub returns : goal.returns
returns c = let a = c.args in
    counted_wrote a.weight a.b a.lits.now a.v _ _ c.min-hi.ensures c.columns-cols.ensures
    c.write_count-sink.ensures (omega (arith, c.shorts.ensures))
