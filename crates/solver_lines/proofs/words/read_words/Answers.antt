use native.Mathlib.Omega.{arith}
use Rattle.solver_words.proofs.laws.Words.{until_past, until_here}
use Rattle.solver_lines.proofs.laws.Words.{words_end, words_fault, words_more}
use Rattle.solver_lines.proofs.words.read_words.Goals as goal

pub returns-then-text-at-eq10 : goal.returns-then-text-at-eq10
returns-then-text-at-eq10 c = let i = c.loop-at.invariant in words_end _ _ _ _ _ _ _ _ i.1 i.2 (until_here 10 _ _ c.loop-at-test.true c.if-text-at-eq10.true)

pub returns-in_default : goal.returns-in_default
returns-in_default c = let i = c.loop-at.invariant in words_fault _ _ _ _ _ _ _ _ i.1 i.2 (rw c.in_default.is at c.step.ensures)

pub loop-at-smaller : goal.loop-at-smaller
loop-at-smaller c = let o = c.step.ensures.on _ _ c.in-Some.is in omega arith

pub loop-at-preserved : goal.loop-at-preserved
loop-at-preserved c = let i = c.loop-at.invariant in let m = words_more _ _ _ _ _ _ _ _ i.1 i.2 (rw c.in-Some.is at c.step.ensures) in (omega arith, m.0, m.1)

pub returns : goal.returns
returns c = let i = c.loop-at.invariant in words_end _ _ _ _ _ _ _ _ i.1 i.2 (until_past 10 _ _ c.loop-at-test.false)
