-- The lines of a counted list's bounds: what the writers' loops keep.
use Rattle.std.specs.Prelude.{Bool, true, false, List, [], ◌∷◌, ◌++◌, ℕ, zero, suc}
use Rattle.scope.specs.Cnf.{neg, opp, and, gate}
use Rattle.sink.specs.Lines.{Line, lines}
use Rattle.gates.specs.Units.{unit_line}

-- a literal, or its opposite
abbrev pub turned : Bool → ℕ → ℕ
turned true l = opp l
turned false l = l

-- k units of the weight w, of the literals f j, from column j on
abbrev pub units_from : ℕ → (ℕ → ℕ) → ℕ → ℕ → List Line
units_from w f j zero = []
units_from w f j (suc k) = unit_line w (f j) ∷ units_from w f (suc j) k

-- one variable with its unit
abbrev pub short_lines : ℕ → ℕ → ℕ → ℕ → List Line
short_lines w c1 cj v = lines v (gate (and (c1 ∷ opp cj ∷ [])) ∷ []) ++ (unit_line w (neg v) ∷ [])
