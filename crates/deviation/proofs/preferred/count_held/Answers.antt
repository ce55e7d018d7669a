use Prim.Native.Nat.{◌+◌, ◌≤◌}
use mathlib.Core.Path.{◌∙◌}
use native.Mathlib.Omega.{arith}
use Rattle.deviation.proofs.laws.Held.{counted_start, counted_more, counted_end}
use Rattle.deviation.proofs.preferred.count_held.Goals as goal

pub loop-i-init : goal.loop-i-init
loop-i-init c = (omega arith, omega arith, λ such f. counted_start _ _ _ _ such)

pub loop-i-preserved : goal.loop-i-preserved
loop-i-preserved c = let l = c.loop-i in
    let r = c.held_at-held in
    let small : l.i + 1 ≤ 125 = omega arith in (
      r.ensures.1,
      omega (arith, r.ensures.1, l.invariant.1),
      λ such f. counted_more _ _ _ _ such l.i l.count l.held _ r.result (omega arith) (l.invariant.2 such f) (c.from-flag.ensures ∙ f.each (l.i + 1) (omega arith)) r.ensures.0,
    )

pub returns : goal.returns
returns c = let l = c.loop-i in λ such f. counted_end _ _ _ _ such l.i l.count l.held c.loop-i-test.false (l.invariant.2 such f)
