-- `deviation::precedence::of_precedence` meets its contract. By the tests of the definition.
use borrow.Author.Tests.{le-leb, lt-leb}
use Rattle.scope.specs.Gap.{gap_within}
use Rattle.deviation.specs.Charge.{precedence_charge}
use Rattle.deviation.proofs.precedence.of_precedence.Goals as goal

pub returns-then-begin-soonest : goal.returns-then-begin-soonest
unfolding precedence_charge gap_within
returns-then-begin-soonest c = rw (← c.first_taken-begin.ensures, ← c.last_taken-after.ensures.0, lt-leb _ _ c.if-begin-soonest.true)

pub returns-then-latest-begin : goal.returns-then-latest-begin
unfolding precedence_charge gap_within
returns-then-latest-begin c = rw (← c.first_taken-begin.ensures, ← c.last_taken-after.ensures.0, le-leb _ _ c.if-begin-soonest.false, lt-leb _ _ c.if-latest-begin.true)

pub returns : goal.returns
unfolding precedence_charge gap_within
returns c = rw (← c.first_taken-begin.ensures, ← c.last_taken-after.ensures.0, le-leb _ _ c.if-begin-soonest.false, le-leb _ _ c.if-latest-begin.false)
