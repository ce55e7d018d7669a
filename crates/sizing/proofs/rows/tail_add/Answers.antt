-- `rows::tail_add` meets its contract: a tail without variables has no unit yet.
-- Assumes nothing.
use native.Mathlib.Omega.{arith}
use Rattle.sizing.proofs.Results.{later-fits, more-fits, unit-fits, tail-same, tail-first, tail_more}
use Rattle.sizing.proofs.rows.tail_add.Goals as goal

pub returns-then-n-eq0 : goal.returns-then-n-eq0
returns-then-n-eq0 c = tail-same _ _ _ _ c.if-n-eq0.true

pub plus-requires : goal.plus-requires
plus-requires c = unit-fits _ _ _ (omega arith) (omega arith) c.rows_size-counter.ensures c.hard_unit-unit.ensures

pub returns-then-tail-eq0 : goal.returns-then-tail-eq0
returns-then-tail-eq0 c = tail-first _ _ _ _ (omega arith) c.if-tail-eq0.true c.rows_size-counter.ensures c.hard_unit-unit.ensures c.plus.ensures

pub multiply-more-requires : goal.multiply-more-requires
multiply-more-requires c = later-fits _ _ _ (omega arith) (omega arith) c.later_row-later.ensures

pub plus-requires-2 : goal.plus-requires-2
plus-requires-2 c = more-fits _ _ _ (omega arith) (omega arith) c.requires.2 c.later_row-later.ensures c.multiply-more.ensures

pub returns : goal.returns
returns c = tail_more _ _ _ _ (omega arith) (omega arith) c.later_row-later.ensures c.multiply-more.ensures c.plus-2.ensures
