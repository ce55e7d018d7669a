-- What gates give their outputs.
use mathlib.Core.Bool.{Bool, true, false, ◌&&◌, ◌||◌}
use mathlib.Core.List.{List, [], ◌∷◌, ◌++◌}
use Prim.Native.Nat.{ℕ}
use Rattle.scope.specs.Cnf.{Assignment, bit, lit, clause, Gate, or, and, cell, Item, gate, hard, soft}

-- whether all of some literals are true
unfoldable pub cube : Assignment → List ℕ → Bool
cube ν [] = true
cube ν (l ∷ ls) = lit ν l && cube ν ls

-- the value that a gate gives its output
unfoldable pub value : Assignment → Gate → Bool
value ν (or ls) = clause ν ls
value ν (and ls) = cube ν ls
value ν (cell x a b) = lit ν a || lit ν x && lit ν b

-- the bytes of the gates' outputs, after the bytes m of the variables before them
abbrev pub byte : Bool → ℕ
byte true = 1
byte false = 0

unfoldable pub outputs : List Item → List ℕ → List ℕ
outputs [] m = []
outputs (gate g ∷ is) m = let b = byte (value (bit m) g) in b ∷ outputs is (m ++ b ∷ [])
outputs (hard c ∷ is) m = outputs is m
outputs (soft w l ∷ is) m = outputs is m
