use mathlib.Core.Path.{◌∙◌}
use borrow.Author.Tests.{le-leb, lt-leb}
use Rattle.turns.specs.Check.{unwound, unwound_marks}
use Rattle.unwinding.proofs.opening.unwind.Goals as goal

pub returns-then-trail-set : goal.returns-then-trail-set
unfolding unwound unwound_marks
returns-then-trail-set c = let z = lt-leb _ _ c.if-trail-set.true in record { value = rw z; marks_after = rw z }

pub returns : goal.returns
unfolding unwound unwound_marks
returns c = let z = le-leb _ _ c.if-trail-set.false in record { value = rw z c.stop.ensures; marks_after = rw z (c.wipe_clause-2.ensures ∙ rw (c.wipe_clause.ensures, c.saturating_sub-first.ensures)) }
