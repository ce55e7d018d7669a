use Rattle.scope.specs.Cnf.{bit}
use Rattle.node_clauses.proofs.laws.Evaluate.{clause_found, clause_next, clause_none}
use Rattle.node_clauses.proofs.evaluate.some_true.Goals as goal

pub returns-then-literal_true : goal.returns-then-literal_true
returns-then-literal_true c = clause_found (bit c.args.model.now) c.args.lits.now c.loop-l.l-index c.loop-l-test.true c.literal_true.ensures c.if-literal_true.true c.loop-l.invariant

pub loop-l-preserved : goal.loop-l-preserved
loop-l-preserved c = clause_next (bit c.args.model.now) c.args.lits.now c.loop-l.l-index c.loop-l-test.true c.literal_true.ensures c.if-literal_true.false c.loop-l.invariant

pub returns : goal.returns
returns c = clause_none (bit c.args.model.now) c.args.lits.now c.loop-l.l-index c.loop-l-test.false c.loop-l.invariant
