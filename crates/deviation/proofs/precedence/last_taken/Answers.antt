use Prim.Native.Nat.{◌+◌, ◌-◌}
use mathlib.Core.Path.{◌≡◌}
use native.Mathlib.Omega.{arith}
use Rattle.deviation.proofs.laws.Gap.{none_less, last_found, last_none}
use Rattle.deviation.proofs.precedence.last_taken.Goals as goal

pub returns-then-bytes-base-eq1 : goal.returns-then-bytes-base-eq1
returns-then-bytes-base-eq1 c = let l = c.loop-t in
    let found = rw c.row_of-base.ensures at c.if-bytes-base-eq1.true in
    let few = c.requires.0.sizes.times in
    let k : l.t - 1 + 1 ≡ l.t = omega arith in
    rw k (last_found _ _ _ l.t (omega arith) l.invariant found, omega arith)

pub loop-t-preserved : goal.loop-t-preserved
loop-t-preserved c = let l = c.loop-t in
    let free = rw c.row_of-base.ensures at c.if-bytes-base-eq1.false in
    none_less _ _ _ l.t (omega arith) l.invariant free

pub returns : goal.returns
returns c = let l = c.loop-t in (last_none _ _ _ l.t (omega arith) l.invariant, omega arith)
