use native.Mathlib.Omega.{arith}
use Rattle.std.proofs.lemmas.Result.{err_from_is_err_and}
use Rattle.solver_lines.proofs.laws.Lines.{after_on, lines_end, lines_fault, lines_more}
use Rattle.solver_lines.proofs.lines.read_lines.Goals as goal

pub loop-at-smaller : goal.loop-at-smaller
loop-at-smaller c = let g = c.in_ok-end.ensures in let o = after_on _ _ c.loop-at-test.true g.ends c.after_end-at.ensures in omega arith

pub loop-at-preserved : goal.loop-at-preserved
loop-at-preserved c = (omega arith, lines_more _ _ _ _ _ _ c.loop-at.invariant.1 c.loop-at-test.true c.in_ok-end.ensures c.after_end-at.ensures)

pub returns-in_err-end : goal.returns-in_err-end
returns-in_err-end c =
    let p = err_from_is_err_and c.from_residual.result c.from_residual.ensures.1 in
    rw (p.1, p.2) (lines_fault _ _ _ _ _ _ c.loop-at.invariant.1 c.loop-at-test.true c.in_err-end.ensures)

pub returns : goal.returns
returns c = lines_end _ _ _ _ _ _ c.loop-at.invariant.1 c.loop-at-test.false
