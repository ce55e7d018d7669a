-- The lines of a counter, cell by cell and row by row: what the loops keep.
use Rattle.std.specs.Prelude.{◌≡◌, refl, List, [], ◌∷◌, map, suc, length}
use Rattle.std.proofs.Common.{ap}
use Rattle.scope.specs.Cnf.{Gate, gate, gates}

-- how many gates there are among gates alone
pub gates-map : (gs : List Gate) → gates (map gate gs) ≡ length gs
gates-map [] = refl
gates-map (g ∷ gs) = ap suc (gates-map gs)
