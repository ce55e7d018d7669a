use mathlib.Core.Path.{◌≡◌, refl, sym, ◌∙◌}
use borrow.Author.Tests.{eqb-true, eqb-false}
use native.Mathlib.Omega.{arith}
use lib.ListN.{length}
use Rattle.sink.specs.Run.{none, same, then}
use Rattle.counts.proofs.laws.CountLines.{last_within, count_none, count_lines}
use Rattle.counts.proofs.write_count.Goals as goal

pub returns-then-is_empty : goal.returns-then-is_empty
returns-then-is_empty c = let none_of : length c.args.lits.now ≡ 0 = eqb-true _ 0 (sym c.is_empty.ensures ∙ c.if-is_empty.true) in
    same (count_none _ _ c.args.b _ _ none_of (omega arith)) none

pub overflow_mul-q : goal.overflow_mul-q
overflow_mul-q c = omega (arith, last_within (length c.args.lits.now) c.args.cols)

pub overflow_add-q : goal.overflow_add-q
overflow_add-q c = omega (arith, last_within (length c.args.lits.now) c.args.cols)

pub write_low-y-requires : goal.write_low-y-requires
write_low-y-requires c = let l = last_within (length c.args.lits.now) c.args.cols in
    let p = c.requires in
    (omega arith, omega arith, omega arith, omega arith)

pub write_high-requires : goal.write_high-requires
write_high-requires c = let l = last_within (length c.args.lits.now) c.args.cols in
    let p = c.requires in
    (omega arith, omega arith)

pub returns : goal.returns
returns c = let a = c.args in
    same (count_lines a.cols a.weight a.b a.lits.now a.first _ (omega (arith, eqb-false (length a.lits.now) 0 (sym c.is_empty.ensures ∙ c.if-is_empty.false))) c.requires.1 refl)
    (then c.write_counter-z.ensures (then c.write_low-y.ensures c.write_high.ensures))
