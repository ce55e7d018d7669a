use mathlib.Core.Path.{◌≡◌}
use native.Mathlib.Omega.{arith}
use Rattle.tables.specs.Rows.{events_of}
use Rattle.sizing.proofs.laws.Sums.{within_more, within_none}
use Rattle.measuring.specs.Blocks.{durations_size}
use Rattle.before_sizes.proofs.laws.Before.{durations-sum-within, durations-more}
use Rattle.before_sizes.proofs.before.durations_size.Goals as goal

pub loop-e-init : goal.loop-e-init
unfolding events_of durations_size
loop-e-init c = let e = c.nothing-sum.ensures in (rw e (within_none 0), λ te. e)

pub overflow_cast-d : goal.overflow_cast-d
overflow_cast-d c = omega (arith, c.type_inv.durations c.loop-e.e)

pub list_size-one-requires : goal.list_size-one-requires
list_size-one-requires c = let d = c.requires.3 c.loop-e.e (omega arith) in
    (omega arith, omega arith, omega arith, omega arith)

pub plus-sum-requires : goal.plus-sum-requires
plus-sum-requires c = let p = c.requires in
    let l = c.loop-e in
    within_more (omega arith) (durations-sum-within l.e _ _ l.invariant.0 p.0 (p.3 l.e (omega arith)) c.list_size-one.ensures)

pub loop-e-preserved : goal.loop-e-preserved
loop-e-preserved c = let p = c.requires in
    let l = c.loop-e in
    let one = c.list_size-one.ensures in (
      rw c.plus-sum.ensures (durations-sum-within l.e _ _ l.invariant.0 p.0 (p.3 l.e (omega arith)) one),
      λ te. durations-more _ _ te l.e (l.invariant.1 te) one c.plus-sum.ensures,
    )

pub returns : goal.returns
returns c = let l = c.loop-e in
    let k : l.e ≡ c.args.events = omega arith in
    (rw k at l.invariant.0, rw k at l.invariant.1)
