-- The items of a counted list by its bounds, and how many variables they have.
use Rattle.std.specs.Prelude.{Bool, cond, List, ℕ, ◌-◌, min, length}
use Rattle.scope.specs.Cnf.{Item}
use Rattle.scope.specs.Formula.{count_items}
use Rattle.counts.specs.CountLines.{rule_of}
use Rattle.constraint.specs.declared.kinds.Bounds.{Bounds}

-- hi is lowered to the list's length
abbrev pub lowered : Bounds → ℕ → Bounds
lowered b n = record { lo = b.lo; hi = min b.hi n; free = b.free }

-- a list counted with bounds as written and the weight w, from the variable v on
unfoldable pub counted : (w : ℕ) (b : Bounds) (xs : List ℕ) (v : ℕ) → List Item
counted w b xs v = count_items w (rule_of (lowered b (length xs))) xs v

-- how many variables kind 6's low part has
abbrev pub shorts : Bool → ℕ → ℕ
shorts free lo = cond free (lo - 1) 0
