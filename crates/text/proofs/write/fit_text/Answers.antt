-- `write::fit_text` meets its contract: the text fits, or 9.
use native.Mathlib.Omega.{arith}
use Rattle.text.proofs.laws.Written.{text_written, text_too_long}
use borrow.Author.Rules.{rules}
use Rattle.text.proofs.write.fit_text.Goals as goal

pub returns-then-n-out : goal.returns-then-n-out
returns-then-n-out c = text_written _ c.text_length-n.ensures (omega arith) (omega arith) c.put_text.ensures

pub returns : goal.returns
returns c = text_too_long _ c.text_length-n.ensures (omega arith)
