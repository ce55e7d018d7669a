use native.Mathlib.Omega.{arith}
use borrow.Author.Rules.{rules}
use mathlib.Core.Path.{◌≡◌}
use Rattle.solver_lines.proofs.laws.Pieces.{ending, end_past}
use Rattle.solver_lines.proofs.line.line_end.Goals as goal

pub returns-then-text-at-eq10 : goal.returns-then-text-at-eq10
returns-then-text-at-eq10 c = search (rules, ending)

pub loop-at-preserved : goal.loop-at-preserved
loop-at-preserved c = let i = c.loop-at.invariant in (search (rules, ending), λ h. omega arith)

pub returns : goal.returns
returns c =
    let i = c.loop-at.invariant in
    let end : c.max.result ≡ c.loop-at.at = grind arith in
    rw end (end_past _ _ _ i.0 c.loop-at-test.false)
