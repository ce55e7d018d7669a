use native.Mathlib.Omega.{arith}
use Rattle.scope.specs.Text.{line}
use Rattle.sink.specs.Run.{then, same}
use Rattle.sink.proofs.laws.Lines.{flat_append}
use Rattle.row_words.specs.Cells.{upper_clauses, lower_clauses}
use Rattle.row_text.proofs.full_cell.Goals as goal

pub returns : goal.returns
returns c = let a = c.args in record {
  ran = same (flat_append (line a.top.value) (upper_clauses a.x a.a.value a.b.value a.c.value) (lower_clauses a.x a.a.value a.b.value a.c.value))
      (then c.upper_lines-p.ensures.ran c.lower_lines.ensures.ran);
  upper_bound = omega (arith, c.upper_lines-p.ensures.upper_bound, c.lower_lines.ensures.upper_bound);
}
