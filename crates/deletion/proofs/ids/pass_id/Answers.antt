use mathlib.Core.Path.{sym, ◌∙◌}
use Rattle.deletion.specs.Passed.{passed_id}
use Rattle.deletion.proofs.ids.pass_id.Goals as goal

pub returns-then-is_dead : goal.returns-then-is_dead
unfolding passed_id
returns-then-is_dead c = c.stop.ensures ∙ rw (sym c.is_dead.ensures ∙ c.if-is_dead.true)

pub returns-in_default : goal.returns-in_default
unfolding passed_id
returns-in_default c = let z = sym c.is_dead.ensures ∙ c.if-is_dead.false in
    let e = c.in_default.is in
    c.stop-in_default.ensures ∙ rw (z, e)

pub returns : goal.returns
unfolding passed_id
returns c = let z = sym c.is_dead.ensures ∙ c.if-is_dead.false in
    let e = c.in-Ok.is in
    c.step_on.ensures ∙ rw (z, e)
