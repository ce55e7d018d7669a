use Prim.Native.Nat.{◌+◌, ◌-◌}
use mathlib.Core.Path.{◌≡◌}
use native.Mathlib.Omega.{arith}
use Rattle.deviation.proofs.laws.Sums.{places_more, places_end}
use Rattle.deviation.proofs.clash.above_one.Goals as goal

pub loop-i-preserved : goal.loop-i-preserved
loop-i-preserved c = let l = c.loop-i in
    let k : l.i + 1 - 1 ≡ l.i = omega arith in
    (omega (arith, c.over_one-sum.ensures.1), places_more _ _ l.i l.sum _ l.invariant.1 c.over_one-sum.result (omega arith) (rw k c.over_one-sum.ensures.0))

pub returns : goal.returns
returns c = places_end _ _ c.loop-i.i c.loop-i.sum _ c.loop-i.invariant.1 (omega arith)
