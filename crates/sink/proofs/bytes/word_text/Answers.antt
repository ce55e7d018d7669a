use Rattle.sink.specs.Run.{out}
use Rattle.sink.proofs.Words.{written_open, written_last}
use borrow.Author.Rules.{rules}
use Rattle.sink.proofs.bytes.word_text.Goals as goal

pub returns-then-w-lt-LAST : goal.returns-then-w-lt-LAST
returns-then-w-lt-LAST c = let a = c.args in
    written_open a.top a.first a.w (out a.at a.text.now) c.open_line-a.ensures c.write_literal-b.ensures c.if-w-lt-LAST.true

pub returns : goal.returns
returns c = let a = c.args in
    written_last a.top a.first a.w (out a.at a.text.now) c.open_line-a.ensures c.write_literal-b.ensures c.close_line.ensures c.if-w-lt-LAST.false (search rules)
