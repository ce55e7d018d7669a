use mathlib.Core.Bool.{true}
use lib.ListN.{drop}
use Rattle.sink.specs.Run.{out}
use Rattle.sink.specs.Block.{by_words}
use Rattle.sink.specs.Parts.{text_parts}
use Rattle.sink.proofs.Turns.{Left}
use Rattle.sink.proofs.bytes.tested_block.Given as goal

abbrev pub invariant-loop-w : goal.invariant-loop-w
invariant-loop-w l = Left (text_parts l.top) l.first (drop l.w-index l.block) (out l.p l.text) (by_words (text_parts l.top) true l.block (out l.at l.initial.text))
