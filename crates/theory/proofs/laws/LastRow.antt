-- Document 01's example of a counter, computed: "literals 1, 0, 1 give last row 1, 1, 0". Its table of examples is in scope; this
-- one stands here because what gates give their outputs is theory.
use mathlib.Core.Path.{◌≡◌, refl}
use mathlib.Core.List.{[], ◌∷◌, map}
use lib.ListN.{drop}
use Rattle.scope.specs.Cnf.{bit, lit, clause, gate}
use Rattle.scope.specs.Formula.{no_row, ones, row, counter}
use Rattle.theory.proofs.laws.Outputs.{cube, value, outputs}

-- three rows of three columns over the variables 1, 2 and 3, from the variable 4 on
pub last_row_lem : drop 6 (outputs (map gate (counter no_row (ones (2 ∷ 4 ∷ 6 ∷ [])) 3 4)) (1 ∷ 0 ∷ 1 ∷ [])) ≡ 1 ∷ 1 ∷ 0 ∷ []
unfolding bit lit clause cube value outputs row counter
last_row_lem = refl
