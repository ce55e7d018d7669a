use mathlib.Core.Bool.{true}
use mathlib.Core.Logic.{⊎_elim}
use mathlib.Core.Path.{◌≡◌, ap}
use native.Mathlib.Omega.{arith}
use Rattle.scope.specs.Formula.{row}
use Rattle.sink.specs.Run.{same}
use Rattle.sink.specs.Lines.{gates_clauses}
use Rattle.sink.proofs.laws.Lines.{lines-gates}
use Rattle.sink.specs.World.{row_over}
use Rattle.sink.specs.AllTrue.{evaluating}
use Rattle.sink.specs.declared.Mode.TheVariants.{SoftText, Tail}
use Rattle.sink.specs.Skipped.{skipping}
use Rattle.sink.proofs.laws.Skipped.{skipped}
use Rattle.sink.proofs.AtOnce.{text_at_once, words_at_once, measure-at-once}
use Rattle.row_value.proofs.laws.Evaluate.{row-passed}
use Rattle.counters.proofs.cells.write_row.Goals as goal

pub returns-in-Some : goal.returns-in-Some
returns-in-Some c = let a = c.args in
    same (lines-gates a.first (row (row_over a.prev) a.w a.x 1 a.cols)) (measure-at-once a.job a.model.now (gates_clauses a.first (row (row_over a.prev) a.w a.x 1 a.cols)) c.in-Measure.is c.in-Some.ensures c.passed.ensures)

pub overflow_cast-job : goal.overflow_cast-job
overflow_cast-job c = omega (arith, (c.spellable.ensures c.if-spellable.true).weight.most)

pub row_text-requires : goal.row_text-requires
row_text-requires c = (c.spellable.ensures c.if-spellable.true, c.room.ensures c.if-room.true)

pub returns-then-spellable : goal.returns-then-spellable
returns-then-spellable c = let a = c.args in
    rw (c.placed.ensures, c.if-w-eq1.true)
    (same (lines-gates a.first (row (row_over a.prev) 1 a.x 1 a.cols)) (text_at_once a.job a.model.now a.s a.text.now a.words.now (gates_clauses a.first (row (row_over a.prev) 1 a.x 1 a.cols)) _ _ c.in-Text.is c.row_text.ensures))

pub row_words-requires : goal.row_words-requires
row_words-requires c = let s = c.requires in (s.0, s.1, s.2, s.3, c.room-in-Words.ensures c.if-room-2.true)

pub returns-then-room-2 : goal.returns-then-room-2
returns-then-room-2 c = let a = c.args in
    rw c.placed-then-room-2.ensures
    (same (lines-gates a.first (row (row_over a.prev) a.w a.x 1 a.cols)) (words_at_once a.job a.model.now a.s a.text.now a.words.now (gates_clauses a.first (row (row_over a.prev) a.w a.x 1 a.cols)) _ _ c.in-Words.is c.row_words.ensures))

pub returns-then-row_right : goal.returns-then-row_right
returns-then-row_right c = let a = c.args in
    row-passed a.job a.model.now a.x a.w a.prev a.first a.cols c.requires.0 c.requires.1 (ap evaluating c.in-Evaluate.is)
    (c.row_right.ensures c.if-row_right.true) c.row_clauses.ensures c.passed-then-row_right.ensures

pub returns-in-SoftText : goal.returns-in-SoftText
returns-in-SoftText c = let a = c.args in
    let idle : skipping a.job.mode ≡ true = ⊎_elim (λ (e : a.job.mode ≡ SoftText). ap skipping e) (λ (e : a.job.mode ≡ Tail). ap skipping e) c.in-SoftText.is in
    same (lines-gates a.first (row (row_over a.prev) a.w a.x 1 a.cols)) (skipped a.job a.model.now (gates_clauses a.first (row (row_over a.prev) a.w a.x 1 a.cols)) idle)
