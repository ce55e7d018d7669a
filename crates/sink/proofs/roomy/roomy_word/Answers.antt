use Rattle.sink.specs.Run.{out}
use native.Mathlib.Omega.{arith}
use Rattle.sink.proofs.Words.{written_open, written_last}
use borrow.Author.Rules.{rules}
use Rattle.sink.proofs.roomy.roomy_word.Goals as goal

pub returns-then-w-lt-LAST : goal.returns-then-w-lt-LAST
returns-then-w-lt-LAST c = let a = c.args in record { text_after = written_open a.top.value a.first a.w (out a.at a.text.now) c.roomy_start-a.ensures.text_after c.fast_literal-b.ensures.ran c.if-w-lt-LAST.true; upper_bound = omega arith }

pub returns : goal.returns
returns c = let a = c.args in record { text_after = written_last a.top.value a.first a.w (out a.at a.text.now) c.roomy_start-a.ensures.text_after c.fast_literal-b.ensures.ran c.end_line.ensures.ran c.if-w-lt-LAST.false (search rules); upper_bound = omega arith }
