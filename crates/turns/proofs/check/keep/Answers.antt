use Rattle.turns.proofs.check.keep.Goals as goal

pub returns : goal.returns
returns c = record { value = rw (c.saturating_add.ensures, c.saturating_add-2.ensures); words_after = c.copy_literals.ensures }
