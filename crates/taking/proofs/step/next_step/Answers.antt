use mathlib.Core.Path.{sym, ◌∙◌}
use borrow.Author.Tests.{le-leb, lt-leb}
use Rattle.turns.specs.Check.{step_taken}
use Rattle.taking.proofs.step.next_step.Goals as goal

pub returns-then-proof-at : goal.returns-then-proof-at
unfolding step_taken
returns-then-proof-at c = let z = le-leb _ _ c.if-proof-at.true in record { value = c.in_phase.ensures ∙ rw z; marks_after = rw z }

pub returns-in-None : goal.returns-in-None
unfolding step_taken
returns-in-None c = let z = lt-leb _ _ c.if-proof-at.false in
    let x = c.read_step.ensures in
    let e = sym x.value ∙ c.in-None.is in record { value = rw (z, e, c.saturating_add.ensures); marks_after = x.marks_after ∙ rw z }

pub returns-in-Some-Adds : goal.returns-in-Some-Adds
unfolding step_taken
returns-in-Some-Adds c = let z = lt-leb _ _ c.if-proof-at.false in
    let x = c.read_step.ensures in
    let f = c.in-Some-Adds.field-0-is in
    let e = sym x.value ∙ c.in-Some-Adds.is in record { value = rw (z, e, f, c.saturating_add.ensures); marks_after = x.marks_after ∙ rw z }

pub returns-in-Some-Deletes : goal.returns-in-Some-Deletes
unfolding step_taken
returns-in-Some-Deletes c = let z = lt-leb _ _ c.if-proof-at.false in
    let x = c.read_step.ensures in
    let f = c.in-Some-Deletes.field-0-is in
    let e = sym x.value ∙ c.in-Some-Deletes.is in record { value = rw (z, e, f, c.saturating_add.ensures); marks_after = x.marks_after ∙ rw z }
