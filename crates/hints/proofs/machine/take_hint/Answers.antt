use mathlib.Core.Path.{sym, ap, ◌∙◌}
use Rattle.standing.specs.Clauses.{stands}
use Rattle.hints.specs.Machine.{walked, walked_marks, walked_trail}
use Rattle.hints.proofs.laws.Machine.{walked-last, walked-early}
use Rattle.hints.proofs.machine.take_hint.Goals as goal

pub returns-then-id-eq0 : goal.returns-then-id-eq0
unfolding walked_marks walked_trail
returns-then-id-eq0 c = let e = sym (rw (c.first_word.ensures, c.word_count.ensures) at c.standing_of-s.ensures) ∙ ap stands c.in-Falsified.is in record { value = rw e (sym (walked-last _ _ _ _ c.if-id-eq0.true)); marks_after = rw e; trail_after = rw e }

pub returns-else-id-eq0 : goal.returns-else-id-eq0
unfolding walked_marks walked_trail
returns-else-id-eq0 c = let e = sym (rw (c.first_word.ensures, c.word_count.ensures) at c.standing_of-s.ensures) ∙ ap stands c.in-Falsified.is in record { value = rw e (c.stop.ensures ∙ sym (walked-early _ _ _ _ c.if-id-eq0.false)); marks_after = rw e; trail_after = rw e }

pub returns-in-OneOpen : goal.returns-in-OneOpen
unfolding walked walked_marks walked_trail
returns-in-OneOpen c = let e = sym (rw (c.first_word.ensures, c.word_count.ensures) at c.standing_of-s.ensures) ∙ ap stands c.in-OneOpen.is in record { value = rw e (c.step_on.ensures ∙ rw c.record_literal-more.ensures.value); marks_after = rw e (c.put_mark.ensures); trail_after = rw e c.record_literal-more.ensures.trail_after }

pub returns-in-Other : goal.returns-in-Other
unfolding walked walked_marks walked_trail
returns-in-Other c = let e = sym (rw (c.first_word.ensures, c.word_count.ensures) at c.standing_of-s.ensures) ∙ ap stands c.in-Other.is in record { value = rw e c.stop-in-Other.ensures; marks_after = rw e; trail_after = rw e }
