-- `numeral::numeral` meets its contract: what the digits from `at` on spell, after the value of those passed, is what all spell.
use Prim.Native.Nat.{◌≤◌}
use mathlib.Core.Path.{◌≡◌}
use lib.ListN.{length}
use Rattle.solver_words.specs.Reading.{numeral_at, numeral_from}
use Rattle.solver_words.proofs.numeral.numeral.Given as goal

abbrev pub invariant-loop-at : goal.invariant-loop-at
invariant-loop-at l = (l.value ≤ l.most) × (numeral_at l.most l.text l.from ≡ numeral_from l.most l.text l.value l.at) × (length l.text ≤ l.from → l.at ≡ l.from)
