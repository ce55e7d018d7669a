-- `write_bounded` meets its contract: the hard clauses, then the tail's rows and unit.
use borrow.Author.Rules.{rules}
use mathlib.Core.Path.{sym, ◌∙◌}
use native.Mathlib.Omega.{arith}
use Rattle.clauses.proofs.laws.Writable.{writable-kept}
use Rattle.claims.proofs.laws.Bounded.{rows_fit_lem, units_there, last_fits, position, all_without_tail, all_with_tail}
use Rattle.claims.proofs.bounded.write_bounded.Goals as goal

pub returns-then-z-eq0 : goal.returns-then-z-eq0
returns-then-z-eq0 c = all_without_tail _ _ c.write_hard-at.ensures
    (sym c.requires.numbers.units ∙ c.if-z-eq0.true)

pub write_rows-s-requires : goal.write_rows-s-requires
write_rows-s-requires c = let p = c.requires in record { writable = (writable-kept p.writable c.write_hard-at.auto.list, position _ c.write_hard-at.ensures); first_nonzero = (omega arith, omega (arith, rows_fit_lem p)) }

pub overflow_add-last : goal.overflow_add-last
overflow_add-last c = omega (arith, last_fits c.requires c.if-z-eq0.false c.write_rows-s.ensures.last)

pub overflow_mul-unit : goal.overflow_mul-unit
overflow_mul-unit c = omega (arith, last_fits c.requires c.if-z-eq0.false c.write_rows-s.ensures.last)

pub overflow_add-unit : goal.overflow_add-unit
overflow_add-unit c = omega (arith, last_fits c.requires c.if-z-eq0.false c.write_rows-s.ensures.last)

pub overflow_add-unit-2 : goal.overflow_add-unit-2
overflow_add-unit-2 c = omega (arith, last_fits c.requires c.if-z-eq0.false c.write_rows-s.ensures.last)

pub returns : goal.returns
returns c = let p = c.requires in
    all_with_tail _ _ c.write_hard-at.ensures (units_there p c.if-z-eq0.false) p.numbers.variables
    c.write_rows-s.ensures (omega arith) c.words_block.ensures
