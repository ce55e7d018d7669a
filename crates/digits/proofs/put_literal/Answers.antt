use Rattle.digits.specs.Run.{then, same}
use Rattle.digits.proofs.Literal.{literal-negative, literal-positive}
use Rattle.digits.proofs.put_literal.Goals as goal

pub returns-then-l-eq1 : goal.returns-then-l-eq1
returns-then-l-eq1 c = same (literal-negative _ c.if-l-eq1.true) (then c.put-a.ensures (then c.put_number-b.ensures c.put.ensures))

pub returns : goal.returns
returns c = same (literal-positive _ c.if-l-eq1.false) (then c.put_number-c.ensures c.put-2.ensures)
