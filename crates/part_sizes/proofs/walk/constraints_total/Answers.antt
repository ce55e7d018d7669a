use mathlib.Core.Path.{◌≡◌, refl, ◌∙◌}
use native.Mathlib.Omega.{arith}
use Rattle.constraint.proofs.laws.Walk.{walk_refused}
use Rattle.instance.proofs.laws.Laws.{groups_most}
use Rattle.part_sizes.proofs.laws.Walked.{walkable-kept, total_addable, total_within, total-start, part_start, part_read, part_sizable, part_next, part_end}
use Rattle.part_sizes.proofs.walk.constraints_total.Goals as goal

pub loop-i-init : goal.loop-i-init
loop-i-init c = let w = c.requires in
    let e = c.nothing-tail.ensures in
    (w, total-start w.within e, λ te a. part_start a refl e)

pub constraint_at-requires : goal.constraint_at-requires
constraint_at-requires c = let w = c.loop-i.invariant.0 in
    let a = w.tabled.accepted in record { list_len = w.list_long; events_bound = omega (arith, a.sizes.events_high); groups_bound = groups_most a }

pub returns-in_default : goal.returns-in_default
returns-in_default c = let l = c.loop-i in
    let w = l.invariant.0 in
    let f = c.constraint_at in
    let p = l.invariant.2 w.resources w.tabled in
    absurd (walk_refused p.walk c.loop-i-test.true f.new.list _ f.ensures c.in_default.is)

pub constraint_size-one-requires : goal.constraint_size-one-requires
constraint_size-one-requires c = let l = c.loop-i in
    let w = l.invariant.0 in
    let f = c.constraint_at in
    let p = l.invariant.2 w.resources w.tabled in
    let n = part_read w.tabled p f.new.list _ c.loop-i-test.true f.ensures c.in-Ok.is in
    (part_sizable w.tabled p n w.durations_long w.groups_long (f.auto.list ∙ w.list_long), w.store_long)

pub add-total-requires : goal.add-total-requires
add-total-requires c = let l = c.loop-i in
    let w = l.invariant.0 in
    let z = c.constraint_size-one.ensures in
    total_addable l.invariant.1 w.columns z.within z.few (omega (arith, c.loop-i-test.true, w.tabled.accepted.constraints_high))

pub loop-i-preserved : goal.loop-i-preserved
loop-i-preserved c = let l = c.loop-i in
    let w = l.invariant.0 in
    let f = c.constraint_at in
    let g = c.constraint_size-one in
    let z = g.ensures in (
      walkable-kept w f.auto.list g.auto.store,
      total_within l.invariant.1 w.columns z.within z.few _ c.add-total.ensures,
      λ te a.
          let p = l.invariant.2 te a in
          let n = part_read a p f.new.list _ c.loop-i-test.true f.ensures c.in-Ok.is in
          part_next a p n z (rw c.from.ensures at c.add-total.ensures),
    )

pub returns : goal.returns
returns c = λ te a.
    let l = c.loop-i in
    let k : l.i ≡ c.args.head.constraints = omega (arith, c.loop-i-test.false) in
    part_end a (l.invariant.2 te a) c.loop-i-test.false (rw k at l.invariant.1)
