use borrow.Author.Tests.{lt-leb, le-leb}
use Rattle.sink.proofs.bytes.word_size.Goals as goal

pub returns-then-w-lt-LAST : goal.returns-then-w-lt-LAST
returns-then-w-lt-LAST c = rw (lt-leb _ _ c.if-w-lt-LAST.true, c.advance.ensures, c.literal_size.ensures)

pub returns : goal.returns
returns c = rw (le-leb _ _ c.if-w-lt-LAST.false, c.advance-2.ensures, c.advance-a.ensures, c.literal_size-2.ensures)
