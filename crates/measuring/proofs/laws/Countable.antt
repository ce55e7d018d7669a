-- The rules of an accepted instance are countable: no literal of theirs is a constant.
use native.Mathlib.Omega.{arith}
use Rattle.laws.specs.Lists.{All}
use Rattle.scope.specs.Kinds.{Atom, Y, S, X}
use Rattle.scope.specs.Instance.{Instance}
use Rattle.scope.specs.Formula.{num, all_rules}
use Rattle.theory.specs.Accepted.{ValidInstance}
use Rattle.theory.proofs.laws.KindRules.{InRange, all_rules-valid}
use Rattle.measuring.proofs.laws.Rules.{Literal, Countable}

-- the variable of an atom at a time is at least 1
in-range-literal : (i : Instance) (a : Atom) → InRange i a → Literal (num i) a
in-range-literal i (Y e t) h = omega (arith, h.1.low)
in-range-literal i (S e t) h = omega (arith, h.1.low)
in-range-literal i (X r t) h = omega (arith, h.1.low)

pub rules-countable : (i : Instance) → ValidInstance i → All (λ r. Countable (num i) r.1) (all_rules i)
rules-countable i v = all_rules-valid i v (Literal (num i)) (in-range-literal i)
