use mathlib.Core.Path.{◌≡◌}
use mathlib.Core.List.{[], ◌∷◌}
use Prim.Native.Nat.{suc, ◌+◌}
use native.Mathlib.Omega.{arith}
use lib.ListN.{length-set}
use Rattle.sink.proofs.laws.Run.{ran-sets}
use Rattle.sink.proofs.lines.end_line.Goals as goal

pub bounds-text-at-2 : goal.bounds-text-at-2
bounds-text-at-2 c = simp length-set (omega arith)

pub returns : goal.returns
returns c = let a = c.args.at in
    let e : a + 1 ≡ suc a = omega arith in record { ran = rw e (ran-sets (48 ∷ 10 ∷ []) c.args.text.now a (a + 2) (omega arith) (omega arith)); upper_bound = omega arith }
