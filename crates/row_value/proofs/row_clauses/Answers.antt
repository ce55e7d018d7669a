use Rattle.row_value.proofs.laws.Evaluate.{row_first, row-later}
use Rattle.row_value.proofs.row_clauses.Goals as goal

pub returns-then-prev-eq0 : goal.returns-then-prev-eq0
returns-then-prev-eq0 c = row_first _ _ _ c.if-prev-eq0.true

pub returns : goal.returns
returns c = row-later _ _ _ c.if-prev-eq0.false c.min.ensures
