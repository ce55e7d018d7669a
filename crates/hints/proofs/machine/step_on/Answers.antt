use mathlib.Core.Path.{sym, ◌∙◌}
use Rattle.hints.proofs.laws.Machine.{onward-end, onward-more}
use Rattle.hints.proofs.machine.step_on.Goals as goal

pub returns-then-id-eq0 : goal.returns-then-id-eq0
returns-then-id-eq0 c = let a = c.args in c.stop.ensures ∙ sym (onward-end a.phase a.over a.id a.next a.set c.if-id-eq0.true)

pub returns : goal.returns
returns c = let a = c.args in sym (onward-more a.phase a.over a.id a.next a.set c.if-id-eq0.false)
