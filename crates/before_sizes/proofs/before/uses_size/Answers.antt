use Prim.Native.Nat.{◌+◌, ◌*◌}
use mathlib.Core.Path.{◌≡◌}
use native.Mathlib.Omega.{arith}
use Rattle.sizing.proofs.laws.Sums.{within_more, within_none}
use Rattle.before_sizes.proofs.laws.Before.{uses-sum-within, uses_start, uses_more, uses_end}
use Rattle.before_sizes.proofs.before.uses_size.Goals as goal

pub loop-i-init : goal.loop-i-init
loop-i-init c = let e = c.nothing-sum.ensures in (rw e (within_none 0), λ es u. rw e (uses_start _ _ es))

pub overflow_cast-n : goal.overflow_cast-n
overflow_cast-n c = omega (arith, c.type_inv.users ((c.loop-i.i + 1) * 1025))

pub use_size-one-requires : goal.use_size-one-requires
use_size-one-requires c = (c.requires.0, c.requires.3 (c.loop-i.i + 1))

pub plus-sum-requires : goal.plus-sum-requires
plus-sum-requires c = let p = c.requires in
    let l = c.loop-i in
    within_more (omega arith) (uses-sum-within l.i _ _ l.invariant.0 p.0 (p.3 (l.i + 1)) c.use_size-one.ensures)

pub loop-i-preserved : goal.loop-i-preserved
loop-i-preserved c = let p = c.requires in
    let l = c.loop-i in
    let one = c.use_size-one.ensures in (
      rw c.plus-sum.ensures (uses-sum-within l.i _ _ l.invariant.0 p.0 (p.3 (l.i + 1)) one),
      λ es u. uses_more _ _ _ _ es u l.sum c.loop-i-test.true one c.plus-sum.ensures (l.invariant.1 es u),
    )

pub returns : goal.returns
returns c = let l = c.loop-i in
    let k : l.i ≡ c.args.resources = omega arith in
    (rw k at l.invariant.0, λ es u. uses_end _ _ _ _ es u c.loop-i-test.false (l.invariant.1 es u))
