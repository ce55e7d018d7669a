use mathlib.Core.Path.{refl, ap}
use native.Mathlib.Omega.{arith}
use lib.ListN.{take}
use Rattle.digits.proofs.Spelling.{spelt-short, one-digit, two_digits}
use Rattle.digits.proofs.spelled.spell_short.Goals as goal

pub invariant_of-result : goal.invariant_of-result
invariant_of-result c = let v = c.args.v in
    record { spelt = spelt-short v 2 _ _ (omega arith) (one-digit v (omega arith)) refl (omega arith) (omega arith) (ap (take 2) c.four-first.ensures) }

pub invariant_of-result-2 : goal.invariant_of-result-2
invariant_of-result-2 c = let v = c.args.v in
    record { spelt = spelt-short v 3 _ _ (omega arith) (two_digits v (omega arith) (omega arith)) refl (omega arith) (omega arith) (ap (take 3) c.four-first-2.ensures) }
