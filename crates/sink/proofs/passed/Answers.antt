use mathlib.Core.Path.{ap, ◌∙◌}
use Rattle.sink.specs.World.{sink_at}
use Rattle.sink.proofs.laws.AllTrue.{counted_none, counted-some}
use Rattle.sink.proofs.passed.Goals as goal

pub returns-then-n-eq0 : goal.returns-then-n-eq0
returns-then-n-eq0 c = ap (λ a. sink_at a c.args.s) (counted_none _ c.if-n-eq0.true)

pub returns : goal.returns
returns c = c.placed.ensures
    ∙ ap (λ a. sink_at a c.args.s) (c.advance.ensures ∙ counted-some _ _ c.if-n-eq0.false)
