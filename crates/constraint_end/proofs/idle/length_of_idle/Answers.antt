use native.Mathlib.Omega.{arith}
use Rattle.constraint_end.proofs.laws.Inner.{listed_in, inner_more, inner-past}
use Rattle.constraint_end.proofs.idle.length_of_idle.Goals as goal

pub group_size-size-requires : goal.group_size-size-requires
group_size-size-requires c = rw c.from.ensures (listed_in _ _ _ _ c.loop-i-test.true c.requires.each)

pub overflow_add-sum : goal.overflow_add-sum
overflow_add-sum c = let g = rw (← c.from.ensures) at (listed_in _ _ _ _ c.loop-i-test.true c.requires.each) in
    omega (arith, g.row.count)

pub loop-i-preserved : goal.loop-i-preserved
loop-i-preserved c = let test = c.loop-i-test.true in
    let g = rw (← c.from.ensures) at (listed_in _ _ _ _ test c.requires.each) in
    let m = rw (← c.from.ensures) at (inner_more c.args.groups.now c.args.list.now _ _ test) in
    (omega (arith, g.row.count), omega (arith, m))

pub returns : goal.returns
returns c = let a = c.args in
    omega (arith, inner-past a.groups.now a.list.now _ _ c.loop-i-test.false)
