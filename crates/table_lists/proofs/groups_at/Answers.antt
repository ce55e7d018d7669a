use Rattle.std.proofs.Common.{◌≡◌, ◌+◌, ◌*◌, ◌-◌, ◌≤◌, length, sym, ◌∙◌, arith}
use lib.ListN.{length-take, length-drop}
use Rattle.scope.specs.Parsed.{repeat}
use Rattle.scope.specs.Instance.{groups_at}
use Rattle.number.proofs.laws.Sequence.{handed-on, limited-value}
use Rattle.parsing.proofs.laws.Parsing.{before-nil, repeat_more, repeat_refused, repeat-end}
use Rattle.tables.specs.Rows.{rows}
use Rattle.table_lists.proofs.laws.Writing.{rows_more}
use Rattle.table_lists.proofs.groups_at.Goals as goal

pub returns-in_err-count : goal.returns-in_err-count
unfolding groups_at
returns-in_err-count c = rw (handed-on _ _ c.from_residual.ensures, ← c.in_err-count.ensures)

pub loop-g-init : goal.loop-g-init
unfolding groups_at rows
loop-g-init c = let count = c.in_ok-count.count in
    let k : count - 0 ≡ count = omega arith in
    let l = limited-value _ _ _ _ c.in_ok-count.ensures in (
      l.high,
      omega arith,
      rw (← c.in_ok-count.ensures, k) (sym (before-nil (repeat _ _ _))),
    )

pub returns : goal.returns
returns c = let l = c.loop-g in
    let e : l.g ≡ c.in_ok-count.count = omega arith in
    rw e at (sym (l.invariant.2 ∙ repeat-end _ _ _ _ _ c.loop-g-test.false))

pub returns-in_err-after : goal.returns-in_err-after
returns-in_err-after c = rw (handed-on _ _ c.from_residual-in_err-after.ensures)
    (sym
    (c.loop-g.invariant.2
    ∙ repeat_refused _ _ _ _ _ c.loop-g-test.true (sym c.in_err-after.ensures)))

pub loop-g-preserved : goal.loop-g-preserved
loop-g-preserved c = let f = c.row_at in
    let l = c.loop-g in
    let row = f.new.row in
    let h : l.g * 126 + 126 ≤ length l.table = omega arith in
    let k : length row ≡ 126 = simp (length-take, length-drop) at f.auto.row ∙ omega arith in (
      l.invariant.0,
      omega arith,
      rw (rows_more l.table row l.g h k) (l.invariant.2 ∙ repeat_more _ _ _ _ _ c.loop-g-test.true (sym c.in_ok-after.ensures)),
    )
