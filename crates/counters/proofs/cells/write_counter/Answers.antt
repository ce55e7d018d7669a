use native.Mathlib.Nat.{sub-zero}
use mathlib.Core.Path.{sym, ◌∙◌}
use native.Mathlib.Omega.{arith}
use lib.ListN.{length}
use Rattle.sink.specs.Run.{todo_start, todo_turn, todo_done, same}
use Rattle.sink.specs.Lines.{gates_clauses}
use Rattle.sink.proofs.laws.Lines.{lines-gates}
use Rattle.sink.proofs.laws.Skipped.{skipped}
use Rattle.scope.specs.Formula.{no_row, ones, counter}
use Rattle.row_words.proofs.laws.Rows.{counter_turn, counter_end, rows_left}
use Rattle.counters.proofs.cells.write_counter.Goals as goal

pub returns-then-skips : goal.returns-then-skips
returns-then-skips c = let a = c.args in
    same (lines-gates a.first (counter no_row (ones a.lits.now) a.cols a.first))
    (skipped a.job a.model.now (gates_clauses a.first (counter no_row (ones a.lits.now) a.cols a.first)) (sym c.skips.ensures ∙ c.if-skips.true))

pub loop-l-init : goal.loop-l-init
loop-l-init c = (c.requires.1, omega arith, simp sub-zero c.requires.2, todo_start)

pub write_row-z-requires : goal.write_row-z-requires
write_row-z-requires c = let l = c.loop-l in
    let i = c.loop-l-test.true in
    let e = rows_left (length c.args.lits.now) l.l-index c.args.cols i in
    (c.requires.0 l.l-index i, omega arith, omega arith, omega arith)

pub overflow_add-next : goal.overflow_add-next
overflow_add-next c = let l = c.loop-l in
    omega (arith, rows_left (length c.args.lits.now) l.l-index c.args.cols c.loop-l-test.true)

pub loop-l-preserved : goal.loop-l-preserved
loop-l-preserved c = let l = c.loop-l in
    let a = c.args in
    let i = c.loop-l-test.true in
    let e = rows_left (length a.lits.now) l.l-index a.cols i in (
      omega arith,
      omega arith,
      omega arith,
      todo_turn (counter_turn a.cols l.prev l.next a.lits.now l.l-index l.invariant.0 i) l.invariant.3 c.write_row-z.ensures,
    )

pub returns : goal.returns
returns c = let l = c.loop-l in
    let a = c.args in
    todo_done (counter_end a.cols l.prev l.next a.lits.now l.l-index c.loop-l-test.false) l.invariant.3
