use mathlib.Core.Bool.{true}
use Prim.Native.Nat.{◌+◌, ◌-◌, ◌*◌, ◌≤◌}
use lib.ListN.{length, drop}
use Rattle.sink.specs.Run.{out}
use Rattle.sink.specs.Block.{by_words}
use Rattle.sink.specs.Parts.{text_parts}
use Rattle.sink.proofs.Turns.{Left}
use Rattle.sink.proofs.roomy.roomy_block.Given as goal

abbrev pub invariant-loop-w : goal.invariant-loop-w
invariant-loop-w l = (l.p + 22 * (length l.block - l.w-index) ≤ length l.initial.text)
    × Left (text_parts l.top.value) l.first (drop l.w-index l.block) (out l.p l.text) (by_words (text_parts l.top.value) true l.block (out l.at l.initial.text))
