use mathlib.Core.Path.{◌≡◌}
use Prim.Native.Nat.{suc, ◌+◌}
use native.Mathlib.Omega.{arith}
use lib.ListN.{length-set}
use Rattle.digits.proofs.spelled.put_four.Goals as goal

pub bounds-text-at-2 : goal.bounds-text-at-2
bounds-text-at-2 c = simp length-set (omega arith)

pub bounds-text-at-3 : goal.bounds-text-at-3
bounds-text-at-3 c = simp length-set (omega arith)

pub bounds-text-at-4 : goal.bounds-text-at-4
bounds-text-at-4 c = simp length-set (omega arith)

pub returns : goal.returns
returns c = let a = c.args.at in
    let e : a + 1 ≡ suc a = omega arith in
    let f : a + 2 ≡ suc (suc a) = omega arith in
    let g : a + 3 ≡ suc (suc (suc a)) = omega arith in
    rw (e, f, g)
