-- `constraint::flat::flat_at` meets its contract: kind, weight and fields in turn.
use Rattle.number.proofs.laws.Sequence.{sequence, handed-on, limited-value}
use Rattle.constraint.specs.Answers.{counts_in}
use Rattle.constraint.specs.Decoded.{decoded_at}
use Rattle.constraint.proofs.Decoding.{decoded-fields}
use Rattle.constraint.proofs.flat.flat_at.Goals as goal

pub returns-in_err-number : goal.returns-in_err-number
unfolding decoded_at
returns-in_err-number c = rw (handed-on _ _ c.from_residual.ensures) (search (sequence, c.in_err-number.ensures) depth 12)

pub returns-in_err-weight : goal.returns-in_err-weight
unfolding decoded_at
returns-in_err-weight c = rw (handed-on _ _ c.from_residual-in_err-weight.ensures) (search (sequence, c.in_ok-number.ensures, c.in_err-weight.ensures) depth 12)

pub kind_named-kind-requires : goal.kind_named-kind-requires
kind_named-kind-requires c = let v = limited-value _ _ _ _ c.in_ok-number.ensures in
    record { low = v.low; high = v.high }

pub returns-in_err-fields : goal.returns-in_err-fields
returns-in_err-fields c = let f = c.fields_at in
    rw (handed-on _ _ c.from_residual-in_err-fields.ensures)
    (rw c.in_err-fields.was
    at (decoded-fields (counts_in c.args.head) _ _ _ _ _ _ f.new.list f.result c.in_ok-number.ensures c.in_ok-weight.ensures (rw c.kind_named-kind.ensures at f.ensures)))

pub returns : goal.returns
returns c = let f = c.fields_at in
    rw c.kind_named-kind.ensures
    (rw c.in_ok-fields.was
    at (decoded-fields (counts_in c.args.head) _ _ _ _ _ _ f.new.list f.result c.in_ok-number.ensures c.in_ok-weight.ensures (rw c.kind_named-kind.ensures at f.ensures)))
