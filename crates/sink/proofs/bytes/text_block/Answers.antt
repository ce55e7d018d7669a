use mathlib.Core.Path.{ap, ◌∙◌}
use mathlib.Core.Bool.{true}
use Prim.Native.Nat.{ℕ}
use native.Mathlib.Omega.{arith}
use Rattle.sink.specs.Run.{out}
use Rattle.sink.specs.Block.{by_words}
use Rattle.sink.specs.Parts.{text_parts}
use Rattle.sink.proofs.bytes.text_block.Goals as goal

pub overflow_cast-top : goal.overflow_cast-top
overflow_cast-top c = omega (arith, (c.roomy.ensures c.if-roomy.true).0)

pub spell-requires : goal.spell-requires
spell-requires c = (c.roomy.ensures c.if-roomy.true).0

pub roomy_block-requires : goal.roomy_block-requires
roomy_block-requires c = (c.roomy.ensures c.if-roomy.true).1

pub returns-then-roomy : goal.returns-then-roomy
returns-then-roomy c = let a = c.args in
    c.roomy_block.ensures
    ∙ ap (λ (v : ℕ). by_words (text_parts v) true a.block.now (out a.at a.text.now)) c.spell.ensures

pub returns : goal.returns
returns c = c.tested_block.ensures
