use mathlib.Core.Path.{◌≡◌}
use lib.ListN.{drop}
use Rattle.scope.specs.Cnf.{bit, clause}
use Rattle.node_clauses.proofs.evaluate.some_true.Given as goal

abbrev pub invariant-loop-l : goal.invariant-loop-l
invariant-loop-l l = clause (bit l.model) (drop l.l-index l.lits) ≡ clause (bit l.model) l.lits
