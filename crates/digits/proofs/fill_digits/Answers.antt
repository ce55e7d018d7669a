use mathlib.Core.Path.{sym, ◌∙◌}
use native.Mathlib.Omega.{arith}
use borrow.Author.Rules.{rules}
use lib.ListN.{length-set}
use Rattle.digits.proofs.Fill.{fill-turn, fill-last, fill_none}
use Rattle.digits.proofs.fill_digits.Goals as goal

pub bounds-text-i-in-loop-i : goal.bounds-text-i-in-loop-i
bounds-text-i-in-loop-i c = simp length-set (omega arith)

pub loop-i-preserved : goal.loop-i-preserved
loop-i-preserved c = let l = c.loop-i in
    (omega arith, omega arith, search rules, sym (fill-turn l.text c.args.at l.i l.x c.loop-i-test.true) ∙ l.invariant.3)

pub returns-then-at-i : goal.returns-then-at-i
returns-then-at-i c = let l = c.loop-i in sym (fill-last l.text c.args.at l.i l.x c.if-at-i.true c.loop-i-test.false) ∙ l.invariant.3

pub returns-else-at-i : goal.returns-else-at-i
returns-else-at-i c = let l = c.loop-i in sym (fill_none l.text c.args.at l.i l.x c.if-at-i.false) ∙ l.invariant.3
