use mathlib.Core.Path.{sym, ◌∙◌}
use Rattle.row_size.proofs.RowSize.{even}
use Rattle.row_size.proofs.even_digits.Goals as goal

pub returns-then-number_size-k : goal.returns-then-number_size-k
returns-then-number_size-k c = let a = c.args in
    record { few = c.number_size-k.ensures.1; each = even a.v a.n c.number_size-k.result c.number_size-k.ensures.0 (sym c.number_size.ensures.0 ∙ c.if-number_size-k.true) }
