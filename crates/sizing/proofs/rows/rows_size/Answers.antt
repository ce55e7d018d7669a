-- `rows::rows_size` meets its contract.
-- Assumes nothing.
use native.Mathlib.Omega.{arith}
use Rattle.sizing.proofs.Results.{later-fits, first_fits, rows_none, rows-some}
use Rattle.sizing.proofs.rows.rows_size.Goals as goal

pub returns-then-n-eq0 : goal.returns-then-n-eq0
returns-then-n-eq0 c = rows_none _ _ _ c.if-n-eq0.true c.nothing.ensures

pub multiply-rest-requires : goal.multiply-rest-requires
multiply-rest-requires c = later-fits _ _ _ (omega arith) (omega arith) c.later_row-later.ensures

pub plus-requires : goal.plus-requires
plus-requires c = first_fits _ _ _ (omega arith) (omega arith) c.first_row-first.ensures c.later_row-later.ensures c.multiply-rest.ensures

pub returns : goal.returns
returns c = rows-some _ _ _ (omega arith) c.first_row-first.ensures c.later_row-later.ensures c.multiply-rest.ensures c.plus.ensures
