-- `fields::field::first_at` meets its contract: by the kind.
use borrow.Author.Tests.{ne_eqb}
use Rattle.fields.specs.declared.kind.KindName.{KindName}
use Rattle.fields.specs.Table.{first_of}
use Rattle.fields.proofs.KindNumbers.{other_number}
use Rattle.fields.proofs.laws.Flat.{reference_read, list_read}
use Rattle.fields.proofs.field.first_at.Goals as goal

pub returns-in-Spread : goal.returns-in-Spread
unfolding first_of
returns-in-Spread c = rw c.in-Spread.is (list_read _ _ _ _ _ _ c.list_at.ensures)

pub returns-in_default : goal.returns-in_default
unfolding first_of
returns-in_default c =
    rw (ne_eqb _ 5 (other_number _ KindName.Spread c.in_default.not-Spread), ← c.things_of-n.ensures) (reference_read _ _ _ _ _ c.reference.ensures)
