use mathlib.Core.Path.{◌∙◌}
use Rattle.score.proofs.laws.Amounts.{never_refused, next_valid, charged_more, amounts_small, charged_end}
use Rattle.score.proofs.walk.charge_all.Goals as goal

pub unwrap-after-requires : goal.unwrap-after-requires
unwrap-after-requires c = never_refused c.requires c.loop-i.invariant c.loop-i-test.true _ _ c.constraint_at.ensures

pub deviation_of-deviation-requires : goal.deviation_of-deviation-requires
deviation_of-deviation-requires c = let p = c.requires in
    let l = c.loop-i in
    let x = c.constraint_at in
    (p.sheet, (x.auto.list ∙ l.invariant.room, (p.groups, (next_valid p l.invariant c.loop-i-test.true _ _ x.ensures c.unwrap-after.ensures).fields)))

pub with_soft-soft-requires : goal.with_soft-soft-requires
with_soft-soft-requires c = let p = c.requires in
    let l = c.loop-i in
    ((amounts_small p l.invariant).1, (next_valid p l.invariant c.loop-i-test.true _ _ c.constraint_at.ensures c.unwrap-after.ensures).weight)

pub loop-i-preserved : goal.loop-i-preserved
loop-i-preserved c = let l = c.loop-i in
    let x = c.constraint_at in
    let d = c.deviation_of-deviation in
    charged_more c.requires l.invariant c.loop-i-test.true _ _ x.ensures c.unwrap-after.ensures x.auto.list d.ensures d.type_inv c.with_hard-hard.ensures c.with_soft-soft.ensures

pub returns : goal.returns
returns c = charged_end c.requires c.loop-i.invariant c.loop-i-test.false
