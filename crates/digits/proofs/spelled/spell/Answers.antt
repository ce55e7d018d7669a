use mathlib.Core.Path.{refl, ap, ◌∙◌}
use mathlib.Core.List.{◌++◌}
use native.Mathlib.Omega.{arith}
use Rattle.scope.specs.Text.{space}
use Rattle.digits.specs.Decimal.{last_digits}
use Rattle.digits.proofs.Spelling.{spelt, all-last, last-three}
use Rattle.digits.proofs.spelled.spell.Goals as goal

pub invariant_of-result : goal.invariant_of-result
invariant_of-result c = let v = c.args.v in
    record { spelt = spelt v 4 _ _ (last_digits 3 v ++ space) (omega arith) (all-last 2 v (omega arith) (omega arith) (omega arith)) refl (omega arith) (omega arith) (c.four-last.ensures ∙ last-three v) (c.four-last.ensures ∙ last-three v) }

pub invariant_of-result-then-v-lt10000 : goal.invariant_of-result-then-v-lt10000
invariant_of-result-then-v-lt10000 c = let v = c.args.v in
    record { spelt = spelt v 5 _ _ (last_digits 4 v ++ space) (omega arith) (all-last 3 v (omega arith) (omega arith) (omega arith)) refl (omega arith) (omega arith) c.four_digits.ensures (c.four-last.ensures ∙ last-three v) }

pub invariant_of-result-then-v-lt100000 : goal.invariant_of-result-then-v-lt100000
invariant_of-result-then-v-lt100000 c = let v = c.args.v in
    record { spelt = spelt v 6 _ _ (last_digits 5 v ++ space) (omega arith) (all-last 4 v (omega arith) (omega arith) (omega arith)) refl (omega arith) (omega arith) c.four_digits-then-v-lt100000.ensures (c.four-last.ensures ∙ last-three v) }

pub invariant_of-result-then-v-lt1000000 : goal.invariant_of-result-then-v-lt1000000
invariant_of-result-then-v-lt1000000 c = let v = c.args.v in
    record { spelt = spelt v 7 _ _ (last_digits 6 v ++ space) (omega arith) (all-last 5 v (omega arith) (omega arith) (omega arith)) refl (omega arith) (omega arith) (c.four_digits-then-v-lt1000000.ensures ∙ ap (last_digits 4) (omega arith)) (c.four-last.ensures ∙ last-three v) }

pub invariant_of-result-2 : goal.invariant_of-result-2
invariant_of-result-2 c = let v = c.args.v in
    record { spelt = spelt v 8 _ _ (last_digits 7 v ++ space) (omega arith) (all-last 6 v (omega arith) (omega arith) (omega arith)) refl (omega arith) (omega arith) (c.four_digits-2.ensures ∙ ap (last_digits 4) (omega arith)) (c.four-last.ensures ∙ last-three v) }
