-- `write::put_text` meets its contract: header, hard lines and soft lines, one after another.
use native.Mathlib.Omega.{arith}
use Rattle.clauses.proofs.laws.Writable.{writable-kept}
use Rattle.text.proofs.laws.Lines.{lines_placed}
use Rattle.text.proofs.laws.Ready.{ran-at, writable, whole_text}
use borrow.Author.Rules.{rules}
use Rattle.text.proofs.write.put_text.Goals as goal

pub run_lines-b-requires : goal.run_lines-b-requires
run_lines-b-requires c = (writable c.requires, ran-at (omega arith) c.write_header-a.ensures)

pub run_lines-requires : goal.run_lines-requires
run_lines-requires c = (
  writable-kept (writable c.requires) (search rules),
  lines_placed c.run_lines-b.ensures (ran-at (omega arith) c.write_header-a.ensures),
)

pub returns : goal.returns
returns c = whole_text c.requires c.write_header-a.ensures c.run_lines-b.ensures c.run_lines.ensures
