use native.Mathlib.Omega.{arith}
use Rattle.scope.specs.Text.{line}
use Rattle.sink.specs.Run.{todo_start, todo_turn, todo_done, then, same}
use Rattle.row_words.proofs.RowLines.{put_turn, put_end, put_first}
use Rattle.row_text.proofs.CellLines.{low_ran, full_ran}
use Rattle.row_text.proofs.row_text.Goals as goal

pub spell-weight-requires : goal.spell-weight-requires
spell-weight-requires c = omega (arith, c.requires.0.weight.most)

pub spell-number-requires : goal.spell-number-requires
spell-number-requires c = omega (arith, c.requires.0.literal.most)

pub spell-before-requires : goal.spell-before-requires
spell-before-requires c = let s = c.requires.0 in omega (arith, s.above.most, s.some)

pub spell-below-requires : goal.spell-below-requires
spell-below-requires c = let s = c.requires.0 in omega (arith, s.row.most, s.some)

pub low_cell-p-requires : goal.low_cell-p-requires
low_cell-p-requires c = (c.spell-number.ensures, omega (arith, c.requires.1, c.requires.0.some))

pub loop-j-init : goal.loop-j-init
loop-j-init c = let s = c.requires in
    (omega (arith, s.1, s.0.some, c.low_cell-p.auto.text, c.low_cell-p.ensures.upper_bound), omega (arith, c.spell-before.ensures), omega (arith, c.spell-below.ensures), todo_start)

pub following-above-requires : goal.following-above-requires
following-above-requires c = let l = c.loop-j in
    let s = c.requires.0.above in
    omega (arith, s.most, l.invariant.1, c.loop-j-test.true, l.auto.j)

pub following-below-requires : goal.following-below-requires
following-below-requires c = let l = c.loop-j in
    let s = c.requires.0.row in
    omega (arith, s.most, l.invariant.2, c.loop-j-test.true, l.auto.j)

pub full_cell-p-requires : goal.full_cell-p-requires
full_cell-p-requires c = let l = c.loop-j in
    (c.spell-number.ensures, omega (arith, l.auto.text, l.invariant.0, c.loop-j-test.true))

pub loop-j-preserved : goal.loop-j-preserved
loop-j-preserved c = let l = c.loop-j in
    let a = c.args in
    let f = c.full_cell-p in
    let t = c.loop-j-test.true in
    let u = c.following-above.ensures in
    let v = c.following-below.ensures in (
      omega (arith, l.invariant.0, t, f.ensures.upper_bound),
      omega (arith, u, l.auto.j, l.invariant.1),
      omega (arith, v, l.auto.j, l.invariant.2),
      todo_turn (put_turn a.x 1 a.prev a.first a.cols (line a.top) l.j t) l.invariant.3
          (full_ran a.top a.x a.prev a.first (omega (arith, c.requires.0.literal.least)) (omega (arith, c.requires.0.above.least)) (omega (arith, c.requires.0.row.least)) l.j l.auto.j
          f.ensures.ran c.spell-weight.ensures (omega (arith, u, l.auto.j, l.invariant.1)) l.invariant.1 (omega (arith, v, l.auto.j, l.invariant.2))),
    )

pub returns : goal.returns
returns c = let l = c.loop-j in
    let a = c.args in
    same (put_first a.x 1 a.prev a.first a.cols (line a.top) c.requires.0.some)
    (then
    (low_ran a.top a.x a.prev a.first (omega (arith, c.requires.0.literal.least)) (omega (arith, c.requires.0.above.least)) (omega (arith, c.requires.0.row.least))
    c.low_cell-p.ensures.ran c.spell-weight.ensures (omega (arith, c.spell-before.ensures)) (omega (arith, c.spell-below.ensures)))
    (todo_done (put_end a.x 1 a.prev a.first a.cols (line a.top) l.j c.loop-j-test.false) l.invariant.3))
