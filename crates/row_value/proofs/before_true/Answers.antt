use mathlib.Core.Path.{◌∙◌, ap}
use Rattle.scope.specs.Cnf.{bit, lit}
use Rattle.sink.specs.World.{row_over}
use Rattle.row_value.proofs.laws.Evaluate.{column-reached, column-carried}
use Rattle.row_value.proofs.before_true.Goals as goal

pub returns-then-j-w : goal.returns-then-j-w
returns-then-j-w c = let a = c.args in column-reached a.model.now a.w a.prev a.j c.if-j-w.true

pub returns : goal.returns
returns c = let a = c.args in c.column_true.ensures ∙ ap (λ k. lit (bit a.model.now) (row_over a.prev k)) (column-carried a.w a.j c.if-j-w.false)
