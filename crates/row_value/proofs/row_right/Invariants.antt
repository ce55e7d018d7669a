use Rattle.scope.specs.Cnf.{bit}
use Rattle.row_value.specs.Evaluate.{Right}
use Rattle.row_value.proofs.row_right.Given as goal

abbrev pub invariant-loop-j : goal.invariant-loop-j
invariant-loop-j l = Right (bit l.model) l.x l.w l.prev l.first l.j
