use mathlib.Core.Path.{ap, ◌∙◌}
use Rattle.scope.specs.Cnf.{opp}
use Rattle.counters.proofs.laws.Literals.{literal-opposite}
use Rattle.counts.proofs.bound_literal.Goals as goal

pub returns-then-high : goal.returns-then-high
returns-then-high c = (
  rw c.if-high.true (c.opposite.ensures ∙ ap opp c.column-l.ensures.0),
  rw c.opposite.ensures (literal-opposite _ c.column-l.ensures.1),
)

pub returns : goal.returns
returns c = (rw c.if-high.false c.column-l.ensures.0, c.column-l.ensures.1)
