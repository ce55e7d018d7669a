use native.Mathlib.Omega.{arith}
use borrow.Author.Rules.{rules}
use mathlib.Core.Path.{◌≡◌}
use Rattle.solver_words.proofs.laws.Words.{word_past}
use Rattle.solver_words.proofs.laws.Numerals.{numerals, numeral_end, numeral_below}
use Rattle.solver_words.proofs.numeral.numeral.Goals as goal

pub returns-then-b-lt48 : goal.returns-then-b-lt48
returns-then-b-lt48 c = rw c.ended.ensures (numeral_below _ _ _ _ c.loop-at.invariant.1 c.loop-at-test.true c.if-b-lt48.true c.loop-at.invariant.0)

pub returns-then-b-gt57 : goal.returns-then-b-gt57
returns-then-b-gt57 c = search (rules, numerals)

pub overflow_cast-value : goal.overflow_cast-value
overflow_cast-value c = omega (arith, c.type_inv.text c.loop-at.at)

pub overflow_add-value : goal.overflow_add-value
overflow_add-value c = omega (arith, c.type_inv.text c.loop-at.at)

pub returns-then-from-value : goal.returns-then-from-value
returns-then-from-value c = search (rules, numerals)

pub loop-at-preserved : goal.loop-at-preserved
loop-at-preserved c = let i = c.loop-at.invariant in (omega arith, search (rules, numerals), λ h. omega arith)

pub returns : goal.returns
returns c =
    let i = c.loop-at.invariant in
    let end : c.max.result ≡ c.loop-at.at = grind arith in
    rw end (numeral_end _ _ _ _ i.1 (word_past _ _ c.loop-at-test.false) i.0)
