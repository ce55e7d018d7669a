use mathlib.Core.Path.{sym, ◌∙◌}
use Rattle.scope.specs.Cnf.{bit}
use Rattle.node_clauses.proofs.laws.Evaluate.{true_some, true_none}
use Rattle.node_clauses.proofs.evaluate.node_right.Goals as goal

pub returns-then-some_true : goal.returns-then-some_true
returns-then-some_true c = let a = c.args in
    true_some (bit a.model.now) a.lits.now a.q c.literal_true-t.ensures (sym c.if-some_true.true ∙ c.some_true.ensures)

pub returns : goal.returns
returns c = let a = c.args in
    true_none (bit a.model.now) a.lits.now a.q c.literal_true-t.ensures (sym c.if-some_true.false ∙ c.some_true.ensures)
