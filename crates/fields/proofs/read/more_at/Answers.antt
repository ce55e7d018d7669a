-- `fields::read::more_at` meets its contract: one field is taken from what is left.
use Prim.Native.Nat.{◌≤◌}
use mathlib.Core.Path.{◌≡◌, refl, ◌∙◌}
use native.Mathlib.Omega.{arith}
use Rattle.fields.specs.Table.{count_of}
use Rattle.fields.specs.declared.kind.KindName.{KindName}
use Rattle.fields.specs.Kind.{number_of}
use Rattle.fields.proofs.KindNumbers.{other_number, number_low}
use Rattle.fields.proofs.laws.Table.{second_field, count-first, count-two}
use Rattle.fields.proofs.laws.Flat.{put_second}
use Rattle.fields.proofs.Left.{left_more, left_refused, left_end}
use Rattle.fields.proofs.read.more_at.Goals as goal

count-clash : {k : KindName} → k ≡ KindName.Clash → count_of (number_of k) ≤ 1
count-clash e = rw e (count-first 1 (omega arith))

two-up : {k : KindName} → (k ≡ KindName.Clash → ⊥) → 2 ≤ number_of k
two-up {k} a = omega (arith, number_low k, other_number k KindName.Clash a)

pub returns-in-Clash : goal.returns-in-Clash
returns-in-Clash c = left_end 1 _ _ _ _ _ _ _ refl (count-clash c.in-Clash.is)

pub returns-in_err-v-in_default : goal.returns-in_err-v-in_default
returns-in_err-v-in_default c = left_refused 1 _ _ _ _ _ _ _ _ _ _ refl (count-two _ (two-up c.in_default.not-Clash)) (second_field _ _) c.second_at.ensures _ _ _ c.in_err-v-in_default.was c.from_residual.ensures

pub returns-in_ok-v-in_default : goal.returns-in_ok-v-in_default
returns-in_ok-v-in_default c = c.bounds_at.ensures.eq _
    ∙ left_more 1 _ _ _ _ _ _ _ _ _ _ refl (count-two _ (two-up c.in_default.not-Clash)) (second_field _ _) c.second_at.ensures _ _ _ c.in_ok-v-in_default.was (c.put-two.ensures ∙ rw c.second_listed.ensures (put_second _ _ _ _))
