use native.Mathlib.Omega.{arith}
use Rattle.laws.specs.Booleans.{never_true}
use Rattle.node_text.proofs.PairLines.{one_more}
use Rattle.node_text.proofs.all_short.Goals as goal

pub loop-l-init : goal.loop-l-init
loop-l-init c = λ k h. absurd (omega arith)

pub returns-then-l-ge20000000 : goal.returns-then-l-ge20000000
returns-then-l-ge20000000 c = λ e. never_true e

pub loop-l-preserved : goal.loop-l-preserved
loop-l-preserved c = one_more c.args.lits.now c.loop-l.l-index c.loop-l.invariant (omega arith)

pub returns : goal.returns
returns c = λ e. λ k h. c.loop-l.invariant k (omega arith)
