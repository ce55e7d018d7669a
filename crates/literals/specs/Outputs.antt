-- The literals of gates' outputs that a list counts.
use Rattle.std.specs.Prelude.{ℕ, zero, suc, ◌+◌, List, [], ◌∷◌}
use Rattle.scope.specs.Cnf.{pos}

-- those of n variables from v on, each `step` after the one before it
unfoldable pub every : (step v n : ℕ) → List ℕ
every step v zero = []
every step v (suc n) = pos v ∷ every step (v + step) n
