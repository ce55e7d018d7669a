use Rattle.std.proofs.Common.{◌<◌, length, refl, sym, ◌∙◌, arith}
use lib.ListN.{set, length-set}
use lib.Seq.{get_or-set_same, get_or-set_other}
use Rattle.scope.specs.Number.{listed}
use Rattle.number.proofs.laws.Sequence.{handed-on, limited-value, reference-value}
use Rattle.number.proofs.laws.Lists.{list-start, list_refused, list_more, list_end}
use Rattle.table_lists.proofs.laws.Writing.{row_of-count}
use Rattle.table_lists.proofs.row_at.Goals as goal

pub returns-in_err-count : goal.returns-in_err-count
unfolding listed
returns-in_err-count c = rw (handed-on _ _ c.from_residual.ensures, ← c.in_err-count.ensures)

pub overflow_cast-row : goal.overflow_cast-row
overflow_cast-row c = let l = limited-value _ _ _ _ c.in_ok-count.ensures in
    omega arith

pub loop-i-init : goal.loop-i-init
loop-i-init c = let row = c.args.row.now in
    let l = limited-value _ _ _ _ c.in_ok-count.ensures in
    let h : 0 < length row = omega arith in (
      omega arith,
      simp length-set (omega arith),
      get_or-set_same row 0 c.in_ok-count.count 0 h,
      list-start 1 (set row 0 c.in_ok-count.count) _ _ _ _ _ (sym c.in_ok-count.ensures),
    )

pub returns-in_err-v : goal.returns-in_err-v
returns-in_err-v c = let l = c.loop-i in
    rw (handed-on _ _ c.from_residual-in_err-v.ensures)
    (list_refused 1 l.row _ _ _ _ _ _ _ _ l.invariant.3 c.loop-i-test.true c.in_err-v.ensures)

pub overflow_cast-row-in-loop-i : goal.overflow_cast-row-in-loop-i
overflow_cast-row-in-loop-i c = let r = reference-value _ _ _ _ c.in_ok-v.ensures in
    omega arith

pub loop-i-preserved : goal.loop-i-preserved
loop-i-preserved c = let l = c.loop-i in (
  omega arith,
  simp length-set l.invariant.1,
  get_or-set_other l.row _ 0 _ 0 (λ x. omega arith) ∙ l.invariant.2,
  list_more 1 l.row _ _ _ _ _ _ _ _ _ _ l.invariant.3 c.loop-i-test.true refl (omega arith)
      c.in_ok-v.ensures,
)

pub returns : goal.returns
returns c = let l = c.loop-i in
    rw (row_of-count l.row _ l.invariant.2 (omega arith))
    (sym (list_end 1 l.row _ _ _ _ _ _ _ l.invariant.3 (omega arith) c.loop-i-test.false))
