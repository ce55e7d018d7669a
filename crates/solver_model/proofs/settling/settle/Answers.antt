use native.Mathlib.Omega.{arith}
use borrow.Author.Tests.{eq-eqb, ne_eqb}
use Rattle.solver_model.proofs.laws.Settled.{settled_stop, settled_more, settled_filled, settled_end}
use Rattle.solver_model.proofs.settling.settle.Goals as goal

pub returns-then-b-eq0 : goal.returns-then-b-eq0
returns-then-b-eq0 c = let v = c.loop-i.invariant in settled_stop _ _ _ v.0 v.1 (omega arith) (rw (eq-eqb _ _ c.if-b-eq0.true))

pub returns-then-b-eq3 : goal.returns-then-b-eq3
returns-then-b-eq3 c = let v = c.loop-i.invariant in settled_stop _ _ _ v.0 v.1 (omega arith) (rw (ne_eqb _ _ c.if-b-eq0.false, eq-eqb _ _ c.if-b-eq3.true))

pub loop-i-preserved : goal.loop-i-preserved
loop-i-preserved c = let v = c.loop-i.invariant in (settled_more _ _ _ v.0 v.1 (omega arith) c.if-b-eq0.false c.if-b-eq3.false, settled_filled _ _ _ v.0 v.1 (omega arith) c.if-b-eq0.false c.if-b-eq3.false)

pub returns : goal.returns
returns c = let v = c.loop-i.invariant in settled_end _ _ _ v.0 v.1 (omega arith)
