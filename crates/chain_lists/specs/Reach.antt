-- Kind 3's list by numbers: o is the first variable of the nodes, p the variable of the time before.
use Rattle.std.specs.Prelude.{ℕ, zero, suc, ◌+◌, ◌-◌, List, [], ◌∷◌, ◌++◌, Bool, true, false}
use Rattle.scope.specs.Cnf.{pos, neg, Gate, or, and}
use Rattle.scope.specs.Kinds.{Reach, started, carried, both, reach_added}

-- the gates of a time, where Y and S of the event come after the variables y and s: M and C; M, C and D
abbrev pub reach_gates : (y s : ℕ) → Reach → (o p : ℕ) → List Gate
reach_gates y s (started t) o p = []
reach_gates y s (carried t) o p = and (pos (y + t) ∷ neg (s + t) ∷ []) ∷ and (pos p ∷ pos o ∷ []) ∷ []
reach_gates y s (both t) o p =
    and (pos (y + t) ∷ neg (s + t) ∷ []) ∷ and (pos p ∷ pos o ∷ []) ∷ or (pos (s + t) ∷ pos (o + 1) ∷ []) ∷ []

-- the variable that says whether a subevent that started outside the group holds it
abbrev pub reach_variable : (s : ℕ) → Reach → (o : ℕ) → ℕ
reach_variable s (started t) o = s + t
reach_variable s (carried t) o = o + 1
reach_variable s (both t) o = o + 2

-- those of some times, the variable of the last of them, and the literals that are counted
unfoldable pub reaches_gates : (y s : ℕ) → List Reach → (o p : ℕ) → List Gate
reaches_gates y s [] o p = []
reaches_gates y s (x ∷ xs) o p = reach_gates y s x o p ++ reaches_gates y s xs (o + reach_added x) (reach_variable s x o)

unfoldable pub last_variable : (s : ℕ) → List Reach → (o p : ℕ) → ℕ
last_variable s [] o p = p
last_variable s (x ∷ xs) o p = last_variable s xs (o + reach_added x) (reach_variable s x o)

unfoldable pub reaches_literals : (s : ℕ) → List Reach → (o : ℕ) → List ℕ
reaches_literals s [] o = []
reaches_literals s (x ∷ xs) o = pos (reach_variable s x o) ∷ reaches_literals s xs (o + reach_added x)

-- what one time adds, in the group or not, where so many times from it on can be reached; and how many of the next can be then,
-- where so many can be from a time outside
unfoldable pub reach_at : (near : ℕ) (inside : Bool) (t : ℕ) → List Reach
reach_at zero true t = []
reach_at zero false t = started t ∷ []
reach_at (suc n) true t = carried t ∷ []
reach_at (suc n) false t = both t ∷ []

abbrev pub near_after : (after near : ℕ) (inside : Bool) → ℕ
near_after after near true = near - 1
near_after after near false = after
