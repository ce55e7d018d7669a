-- `note::note` meets its contract: by whether the variable was given before.
use borrow.Author.Tests.{eq-eqb, ne_eqb}
use Rattle.solver_lines.proofs.note.note.Goals as goal

pub returns-then-store-i-eq0 : goal.returns-then-store-i-eq0
returns-then-store-i-eq0 c = rw (eq-eqb _ _ c.if-store-i-eq0.true)

pub returns : goal.returns
returns c = rw (ne_eqb _ _ c.if-store-i-eq0.false)
