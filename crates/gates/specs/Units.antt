-- Start clauses and units as lines.
use Rattle.std.specs.Prelude.{Bool, true, false, List, [], ◌∷◌, ℕ, zero, suc, ◌-◌}
use Rattle.scope.specs.Cnf.{pos, neg}
use Rattle.sink.specs.Lines.{Line, clause_line, soft_line}

-- the two clauses of an event's start, where y and s are its variables Y and S, at time 1 or later
abbrev pub start_clauses : Bool → ℕ → ℕ → List (List ℕ)
start_clauses true y s = (pos y ∷ neg s ∷ []) ∷ (neg y ∷ pos s ∷ []) ∷ []
start_clauses false y s = (pos y ∷ neg s ∷ []) ∷ (pos (y - 1) ∷ neg y ∷ pos s ∷ []) ∷ []

-- a unit's line: a hard clause where its weight is 0
abbrev pub unit_line : ℕ → ℕ → Line
unit_line zero l = clause_line (l ∷ [])
unit_line (suc w) l = soft_line (suc w) l
