-- `fields::read::bounds_at` meets its contract: one field after another is taken from what is left.
use Prim.Native.Nat.{◌≤◌, ◌<◌}
use mathlib.Core.Path.{◌≡◌, refl, ◌∙◌}
use mathlib.Core.Logic.{⊎_elim, ◌⊎◌}
use Rattle.fields.specs.Table.{count_of}
use native.Mathlib.Omega.{arith}
use Rattle.fields.specs.declared.kind.KindName.{KindName}
use Rattle.fields.specs.Kind.{number_of}
use Rattle.fields.proofs.KindNumbers.{other_number, number_low, number_high}
use Rattle.fields.proofs.laws.Table.{third_bound, fourth_bound, count-second, count-three, count-four, count-other}
use Rattle.fields.proofs.laws.Flat.{number_read}
use Rattle.fields.proofs.Left.{left_more, left_refused, left_end}
use Rattle.fields.proofs.read.bounds_at.Goals as goal

-- kind by kind, the second field is the last
last-second : (k : KindName) → (k ≡ KindName.Clash) ⊎ ((k ≡ KindName.Unavailable) ⊎ (k ≡ KindName.Preferred)) → count_of (number_of k) ≤ 2
last-second k h = let n : number_of k < 4 = ⊎_elim (λ e. rw e (omega arith)) (⊎_elim (λ e. rw e (omega arith)) (λ e. rw e (omega arith))) h in count-second _ n

module _ {k : KindName} (a : k ≡ KindName.Clash → ⊥) (b : k ≡ KindName.Unavailable → ⊥) (d : k ≡ KindName.Preferred → ⊥) where
  four-up : 4 ≤ number_of k
  four-up = omega (arith, number_low k, other_number k KindName.Clash a, other_number k KindName.Unavailable b, other_number k KindName.Preferred d)

module _ {k : KindName} (a : k ≡ KindName.Lengths → ⊥) (b : k ≡ KindName.Precedence → ⊥) where
  up-to-nine : number_of k ≤ 9
  up-to-nine = omega (arith, number_high k, other_number k KindName.Lengths a, other_number k KindName.Precedence b)

pub returns-in-Clash : goal.returns-in-Clash
returns-in-Clash c = record { eq = λ l. left_end 2 _ _ _ _ _ _ _ refl (last-second _ c.in-Clash.is) }

pub returns-in-Lengths : goal.returns-in-Lengths
returns-in-Lengths c = c.last_kinds_at.ensures

pub returns-in_err-v : goal.returns-in_err-v
returns-in_err-v c = let n = c.in_default in record {
  eq = λ l.
      left_refused 2 _ _ _ _ _ _ _ _ _ _ refl (count-three _ (four-up n.not-Clash n.not-Unavailable n.not-Preferred)) (third_bound _ _ (up-to-nine n.not-Lengths n.not-Precedence)) (number_read _ _ _ _ _ _ c.limited.ensures) _ _ _ c.in_err-v.was c.from_residual.ensures;
}

pub returns-in-Split : goal.returns-in-Split
returns-in-Split c = let n = c.in_default in record {
  eq = λ l.
      left_end 3 _ _ _ _ _ _ _ refl (rw c.in-Split.is count-four)
      ∙ left_more 2 _ _ _ _ _ _ _ _ _ _ refl (count-three _ (four-up n.not-Clash n.not-Unavailable n.not-Preferred)) (third_bound _ _ (up-to-nine n.not-Lengths n.not-Precedence)) (number_read _ _ _ _ _ _ c.limited.ensures) _ _ _ c.in_ok-v.was c.push-third.ensures;
}

pub returns-in_err-u-in_default-kind : goal.returns-in_err-u-in_default-kind
returns-in_err-u-in_default-kind c = let n = c.in_default in let m = c.in_default-kind in let four = count-other _ (four-up n.not-Clash n.not-Unavailable n.not-Preferred) (other_number _ KindName.Split m.not-Split) (λ e. omega (arith, up-to-nine n.not-Lengths n.not-Precedence)) in
    record {
      eq = λ l.
          left_refused 3 _ _ _ _ _ _ _ _ _ _ refl (rw four (omega arith)) (fourth_bound _ _ (up-to-nine n.not-Lengths n.not-Precedence)) (number_read _ _ _ _ _ _ c.limited-in_default-kind.ensures) _ _ _ c.in_err-u-in_default-kind.was c.from_residual-in_err-u-in_default-kind.ensures
          ∙ left_more 2 _ _ _ _ _ _ _ _ _ _ refl (count-three _ (four-up n.not-Clash n.not-Unavailable n.not-Preferred)) (third_bound _ _ (up-to-nine n.not-Lengths n.not-Precedence)) (number_read _ _ _ _ _ _ c.limited.ensures) _ _ _ c.in_ok-v.was c.push-third.ensures;
    }

pub returns-in_ok-u-in_default-kind : goal.returns-in_ok-u-in_default-kind
returns-in_ok-u-in_default-kind c = let n = c.in_default in let m = c.in_default-kind in let four = count-other _ (four-up n.not-Clash n.not-Unavailable n.not-Preferred) (other_number _ KindName.Split m.not-Split) (λ e. omega (arith, up-to-nine n.not-Lengths n.not-Precedence)) in
    record {
      eq = λ l.
          left_end 4 _ _ _ _ _ _ _ refl (rw four (omega arith))
          ∙ left_more 3 _ _ _ _ _ _ _ _ _ _ refl (rw four (omega arith)) (fourth_bound _ _ (up-to-nine n.not-Lengths n.not-Precedence)) (number_read _ _ _ _ _ _ c.limited-in_default-kind.ensures) _ _ _ c.in_ok-u-in_default-kind.was c.push-fourth.ensures
          ∙ left_more 2 _ _ _ _ _ _ _ _ _ _ refl (count-three _ (four-up n.not-Clash n.not-Unavailable n.not-Preferred)) (third_bound _ _ (up-to-nine n.not-Lengths n.not-Precedence)) (number_read _ _ _ _ _ _ c.limited.ensures) _ _ _ c.in_ok-v.was c.push-third.ensures;
    }
