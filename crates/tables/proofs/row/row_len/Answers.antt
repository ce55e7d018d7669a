-- `tables::row::row_len` meets its contract: the length is the row's first byte.
use mathlib.Core.Path.{sym, ◌∙◌}
use Rattle.tables.proofs.laws.Laws.{length-row_at}
use Rattle.tables.proofs.row.row_len.Goals as goal

pub returns : goal.returns
returns c = c.from.ensures ∙ sym (length-row_at _ _)
