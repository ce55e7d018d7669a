-- The opposites of literals of variables, and the literals of a node's output, are literals of variables.
use Prim.Native.Nat.{ℕ, ◌≤◌, ◌<◌}
use mathlib.Core.List.{List, map}
use native.Mathlib.Omega.{arith}
use Rattle.scope.specs.Cnf.{pos, neg, opp}
use Rattle.parsing.specs.Each.{Each, each_none, each_more}
use Rattle.literals.specs.Proper.{Proper}

pub opposite-proper : (l : ℕ) → Proper l → Proper (opp l)
opposite-proper l p = record { low = omega (arith, p.low); high = omega (arith, p.high) }

pub output-proper : (v : ℕ) → 1 ≤ v → v < 1073741824 → Proper (pos v)
output-proper v a b = record { low = omega arith; high = omega arith }

pub negated-proper : (v : ℕ) → 1 ≤ v → v < 1073741824 → Proper (neg v)
negated-proper v a b = record { low = omega arith; high = omega arith }

pub opposites_proper : {ls : List ℕ} → Each Proper ls → Each Proper (map opp ls)
opposites_proper each_none = each_none
opposites_proper (each_more {x = l} p ps) = each_more (opposite-proper l p) (opposites_proper ps)
