use mathlib.Core.Bool.{true}
use lib.ListN.{drop}
use Rattle.sink.specs.Block.{by_words}
use Rattle.sink.specs.Parts.{size_parts}
use Rattle.sink.proofs.Turns.{Left}
use Rattle.sink.proofs.bytes.size_block.Given as goal

abbrev pub invariant-loop-w : goal.invariant-loop-w
invariant-loop-w l = Left (size_parts l.beside) true (drop l.w-index l.block) l.p (by_words (size_parts l.beside) true l.block l.at)
