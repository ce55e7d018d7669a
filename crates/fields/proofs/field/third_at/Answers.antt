-- `fields::field::third_at` meets its contract: by the kind.
use borrow.Author.Tests.{lt-ltb, ne_eqb}
use Rattle.fields.specs.declared.kind.KindName.{KindName}
use Rattle.fields.specs.Table.{third_of}
use Rattle.fields.proofs.KindNumbers.{other_number}
use Rattle.fields.proofs.laws.Flat.{bound-read}
use Rattle.fields.proofs.field.third_at.Goals as goal

pub returns-in-Lengths : goal.returns-in-Lengths
unfolding third_of
returns-in-Lengths c = rw c.in-Lengths.is (bound-read _ _ _ _ _ c.limited.ensures)

pub returns-in_default : goal.returns-in_default
unfolding third_of
returns-in_default c =
    rw (lt-ltb _ _ c.requires, ne_eqb _ 10 (other_number _ KindName.Lengths c.in_default.not-Lengths)) (bound-read _ _ _ _ _ c.limited-in_default.ensures)
