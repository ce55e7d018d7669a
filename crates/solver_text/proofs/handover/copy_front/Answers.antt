use Prim.Native.Nat.{◌<◌}
use mathlib.Core.Path.{refl, sym}
use native.Mathlib.Omega.{arith}
use lib.ListN.{length, length-set}
use Rattle.solver_text.proofs.laws.Copied.{copied_more, copied_end}
use Rattle.solver_text.proofs.handover.copy_front.Goals as goal

pub loop-i-preserved : goal.loop-i-preserved
loop-i-preserved c =
    let v = c.loop-i.invariant in
    let h : c.loop-i.i < length c.loop-i.to = omega (arith, v.0) in
    let k : c.loop-i.i < length c.args.from.now = omega arith in
    (simp length-set v.0, omega arith, copied_more _ _ _ v.2 h k)

pub returns : goal.returns
returns c = let v = c.loop-i.invariant in copied_end _ _ _ v.2 (omega (arith, v.0)) _ (sym v.0) v.1
