use Rattle.sink.proofs.Truth.{word-open, word-last}
use borrow.Author.Rules.{rules}
use Rattle.sink.proofs.judge_block.judge_word.Goals as goal

pub returns-then-w-lt-LAST : goal.returns-then-w-lt-LAST
returns-then-w-lt-LAST c = word-open _ _ _ c.holds_after-holds.ensures c.if-w-lt-LAST.true

pub returns : goal.returns
returns c = word-last _ _ _ c.holds_after-holds.ensures c.if-w-lt-LAST.false (search rules)
    c.advance-at.ensures c.bad_after.ensures
