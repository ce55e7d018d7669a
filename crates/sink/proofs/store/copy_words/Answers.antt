use native.Mathlib.Nat.{add-zero}
use mathlib.Core.Path.{refl, sym, ◌∙◌}
use Prim.Native.Nat.{◌≤◌, ◌<◌}
use native.Mathlib.Omega.{arith}
use borrow.Author.Rules.{rules}
use lib.ListN.{length, drop_of_length-le}
use Rattle.sink.proofs.Turns.{copy-turn}
use Rattle.sink.proofs.store.copy_words.Goals as goal

pub loop-i-init : goal.loop-i-init
loop-i-init c = (omega arith, refl, refl, rw add-zero)

pub loop-i-preserved : goal.loop-i-preserved
loop-i-preserved c = let l = c.loop-i in
    let lt : l.i < length c.args.block.now = omega arith in
    (omega arith, refl, search rules, sym (copy-turn _ _ _ l.i lt) ∙ l.invariant.3)

pub returns : goal.returns
returns c = let ge : length c.args.block.now ≤ c.loop-i.i = omega arith in
    rw (drop_of_length-le _ ge) at c.loop-i.invariant.3
