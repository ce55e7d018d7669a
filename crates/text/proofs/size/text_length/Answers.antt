-- `size::text_length` meets its contract: the header's length and the lines', far below 2 ^ 63.
use native.Mathlib.Omega.{arith}
use Rattle.text.proofs.laws.Ready.{lines_below, whole_length}
use borrow.Author.Rules.{rules}
use Rattle.text.proofs.size.text_length.Goals as goal

pub overflow_add-result : goal.overflow_add-result
overflow_add-result c = omega (arith, lines_below c.requires c.run_lines-lines.ensures, c.header_size.ensures.1)

pub returns : goal.returns
returns c = whole_length c.requires c.header_size.ensures.0 c.run_lines-lines.ensures
