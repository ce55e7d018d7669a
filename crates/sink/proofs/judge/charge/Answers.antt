use mathlib.Core.Path.{sym, ◌∙◌}
use Rattle.sink.proofs.judge.charge.Goals as goal

pub returns-then-literal_true : goal.returns-then-literal_true
returns-then-literal_true c = rw (sym c.literal_true.ensures ∙ c.if-literal_true.true)

pub returns : goal.returns
returns c = rw (sym c.literal_true.ensures ∙ c.if-literal_true.false, c.advance-lost.ensures)
