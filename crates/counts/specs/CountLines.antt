-- The lines of a counted list: its counter, its low part, its high part.
use Rattle.std.specs.Prelude.{cond, List, [], ℕ, ◌-◌}
use Rattle.scope.specs.Kinds.{Rule}
use Rattle.scope.specs.Cnf.{Item}
use Rattle.scope.specs.Formula.{low_units, short_units}
use Rattle.constraint.specs.declared.kinds.Bounds.{Bounds}

-- the rule of some bounds, without its list
abbrev pub rule_of : Bounds → Rule
rule_of b = record { lo = b.lo; hi = b.hi; zero_free = b.free; list = record { nodes = []; members = [] } }

-- the low part, from the variable v on
unfoldable pub low_items : ℕ → Bounds → (ℕ → ℕ) → ℕ → List Item
low_items w b q v = cond b.free (short_units w q 2 (b.lo - 1) v) (low_units w q b.lo)
