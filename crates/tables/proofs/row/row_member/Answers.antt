-- `tables::row::row_member` meets its contract: the members are the bytes after the row's first.
use mathlib.Core.Path.{sym}
use native.Mathlib.Omega.{arith}
use Rattle.tables.proofs.laws.Laws.{row_at-member}
use Rattle.tables.proofs.row.row_member.Goals as goal

pub returns : goal.returns
returns c = sym (row_at-member _ _ _ (omega arith) c.requires.k_in_bounds)
