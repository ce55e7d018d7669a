use Rattle.laws.specs.Booleans.{never_true}
use Rattle.row_value.proofs.laws.Evaluate.{right-none, right-all}
use Rattle.row_value.proofs.row_right.Goals as goal

pub loop-j-init : goal.loop-j-init
loop-j-init c = right-none

pub returns-then-not-cell_right : goal.returns-then-not-cell_right
returns-then-not-cell_right c e = never_true e

pub returns : goal.returns
returns c e = right-all _ c.loop-j.invariant c.loop-j-test.false
