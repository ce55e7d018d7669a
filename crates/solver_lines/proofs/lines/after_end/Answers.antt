-- `lines::after_end` meets its contract: by whether the text goes on.
use borrow.Author.Tests.{lt-ltb, le-ltb}
use Rattle.solver_lines.proofs.lines.after_end.Goals as goal

pub returns-then-end-text : goal.returns-then-end-text
returns-then-end-text c = rw (lt-ltb _ _ c.if-end-text.true)

pub returns : goal.returns
returns c = rw (le-ltb _ _ c.if-end-text.false)
