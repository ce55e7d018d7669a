-- Hints and literals by marks, a number for each variable, as the code keeps them.
use Rattle.std.specs.Prelude.{cond, List, [], ◌∷◌, ℕ, ◌+◌, ◌/◌, ◌%◌, eqb}

-- marks: 0 where a variable is open, else 1 + the last bit of its true literal
abbrev pub Marks : Type 0
Marks = ℕ → ℕ

-- how a clause stands under marks: all its literals false; one open, the others false; anything else
pub data Standing : Type 0 where
  falsified : Standing
  one_open : (l : ℕ) → Standing
  other : Standing

-- with one open literal more
abbrev pub also_open : Standing → ℕ → Standing
also_open falsified l = one_open l
also_open (one_open k) l = other
also_open other l = other

-- with one literal more, m being the mark of its variable
abbrev pub also_literal : Standing → ℕ → ℕ → Standing
also_literal s m l = cond (eqb m 0) (also_open s l) (cond (eqb m (1 + l % 2)) other s)

unfoldable pub standing : Marks → Standing → List ℕ → Standing
standing m s [] = s
standing m s (l ∷ ls) = standing m (also_literal s (m (l / 2)) l) ls
