-- `fields::read::last_kinds_at` meets its contract: one field after another is taken from what is left.
use mathlib.Core.Path.{refl, ◌∙◌}
use native.Mathlib.Omega.{arith}
use Rattle.fields.specs.declared.kind.KindName.{KindName}
use Rattle.fields.proofs.KindNumbers.{other_number}
use Rattle.fields.proofs.laws.Table.{third_field, fourth_gap, count-three, count-ten, count-other}
use Rattle.fields.proofs.laws.Flat.{number_read, put-third}
use Rattle.fields.proofs.Left.{left_more, left_refused, left_end}
use Rattle.fields.proofs.read.last_kinds_at.Goals as goal

pub returns-in_err-v : goal.returns-in_err-v
returns-in_err-v c = record {
  eq = λ l.
      left_refused 2 _ _ _ _ _ _ _ _ _ _ refl (count-three _ (omega arith)) (third_field _ _) (c.third_at.ensures.each l) _ _ _ c.in_err-v.was c.from_residual.ensures;
}

pub returns-in-Lengths : goal.returns-in-Lengths
returns-in-Lengths c = record {
  eq = λ l.
      left_end 3 _ _ _ _ _ _ _ refl (rw c.in-Lengths.is count-ten)
      ∙ left_more 2 _ _ _ _ _ _ _ _ _ _ refl (count-three _ (omega arith)) (third_field _ _) (c.third_at.ensures.each l) _ _ _ c.in_ok-v.was (c.push-third.ensures ∙ put-third _ _ _ _);
}

pub returns-in_err-u-in_default : goal.returns-in_err-u-in_default
returns-in_err-u-in_default c = let four = count-other _ (omega arith) (λ e. omega arith) (other_number _ KindName.Lengths c.in_default.not-Lengths) in
    record {
      eq = λ l.
          left_refused 3 _ _ _ _ _ _ _ _ _ _ refl (rw four (omega arith)) (fourth_gap _ _ c.requires) (number_read _ _ _ _ _ _ c.limited.ensures) _ _ _ c.in_err-u-in_default.was c.from_residual-in_err-u-in_default.ensures
          ∙ left_more 2 _ _ _ _ _ _ _ _ _ _ refl (count-three _ (omega arith)) (third_field _ _) (c.third_at.ensures.each l) _ _ _ c.in_ok-v.was (c.push-third.ensures ∙ put-third _ _ _ _);
    }

pub returns-in_ok-u-in_default : goal.returns-in_ok-u-in_default
returns-in_ok-u-in_default c = let four = count-other _ (omega arith) (λ e. omega arith) (other_number _ KindName.Lengths c.in_default.not-Lengths) in
    record {
      eq = λ l.
          left_end 4 _ _ _ _ _ _ _ refl (rw four (omega arith))
          ∙ left_more 3 _ _ _ _ _ _ _ _ _ _ refl (rw four (omega arith)) (fourth_gap _ _ c.requires) (number_read _ _ _ _ _ _ c.limited.ensures) _ _ _ c.in_ok-u-in_default.was c.push-fourth.ensures
          ∙ left_more 2 _ _ _ _ _ _ _ _ _ _ refl (count-three _ (omega arith)) (third_field _ _) (c.third_at.ensures.each l) _ _ _ c.in_ok-v.was (c.push-third.ensures ∙ put-third _ _ _ _);
    }
