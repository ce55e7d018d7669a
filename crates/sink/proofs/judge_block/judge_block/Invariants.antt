use mathlib.Core.Bool.{true}
use lib.ListN.{drop}
use Rattle.sink.specs.Block.{by_words}
use Rattle.sink.specs.Parts.{judge_parts}
use Rattle.sink.proofs.Turns.{Left}
use Rattle.sink.proofs.judge_block.judge_block.Given as goal

abbrev pub invariant-loop-w : goal.invariant-loop-w
invariant-loop-w l = Left (judge_parts l.model) true (drop l.w-index l.block) (record { at = l.at; bad = l.bad; holds = l.holds })
    (by_words (judge_parts l.model) true l.block (record { at = l.initial.at; bad = l.initial.bad; holds = l.initial.holds }))
