-- `note::take_word` meets its contract: by what the word is.
use native.Mathlib.Omega.{arith}
use Rattle.solver_lines.proofs.laws.Words.{taken_late, positive_range, negative_range, taken_positive, taken_negative, taken_closing, taken_malformed}
use Rattle.solver_lines.proofs.note.take_word.Goals as goal

pub returns-then-closed : goal.returns-then-closed
returns-then-closed c = rw c.if-closed.true (taken_late _ _ _ _)

pub note-requires : goal.note-requires
note-requires c = let r = positive_range _ _ _ (rw c.in-Positive.is at c.word_at.ensures) in (r.0, omega arith)

pub note-requires-in-Negative : goal.note-requires-in-Negative
note-requires-in-Negative c = let r = negative_range _ _ _ (rw c.in-Negative.is at c.word_at.ensures) in (r.0, omega arith)

pub returns-in-Positive : goal.returns-in-Positive
returns-in-Positive c = rw c.if-closed.false (taken_positive _ _ _ _ (rw c.in-Positive.is at c.word_at.ensures) c.note.ensures)

pub returns-in-Negative : goal.returns-in-Negative
returns-in-Negative c = rw c.if-closed.false (taken_negative _ _ _ _ (rw c.in-Negative.is at c.word_at.ensures) c.note-in-Negative.ensures)

pub returns-in-Closing : goal.returns-in-Closing
returns-in-Closing c = rw c.if-closed.false (taken_closing _ _ _ _ (rw c.in-Closing.is at c.word_at.ensures))

pub returns-in-Malformed : goal.returns-in-Malformed
returns-in-Malformed c = rw c.if-closed.false (taken_malformed _ _ _ _ (rw c.in-Malformed.is at c.word_at.ensures))
