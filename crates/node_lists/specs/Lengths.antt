-- The lists of kinds 9 and 10 by numbers, for T times: M of time 2 is the variable v, M of each later time the next one; y and s
-- are the last variables before Y and S of the event.
use Rattle.std.specs.Prelude.{ℕ, ◌+◌, ◌-◌, min, List, [], ◌∷◌, ◌++◌, map, cond, eqb}
use Rattle.scope.specs.Cnf.{pos, neg, opp, Gate, or, and}
use Rattle.scope.specs.Kinds.{from}
use Rattle.literals.specs.Outputs.{every}

-- M of the times 2 to T + 1
abbrev pub goes_gate : (y s t : ℕ) → Gate
goes_gate y s t = and (pos (y + t) ∷ neg (s + t) ∷ [])

unfoldable pub going_gates : (T y s : ℕ) → List Gate
going_gates T y s = map (goes_gate y s) (from 2 (T - 1)) ++ or [] ∷ []

-- how many of the times from t + a to t + b are up to T + 1, and the literals of their M
unfoldable pub on_count : (T t a b : ℕ) → ℕ
on_count T t a b = min (t + b) (T + 1) + 1 - (t + a)

abbrev pub on_literals : (T v t a b : ℕ) → List ℕ
on_literals T v t a b = every 1 (v + (t + a - 2)) (on_count T t a b)

-- K of kind 9: a start at time t whose subevent has the length n
unfoldable pub length_gate : (T n s v t : ℕ) → Gate
length_gate T n s v t = and (pos (s + t) ∷ on_literals T v t 1 (n - 1) ++ map opp (on_literals T v t n n))

-- Q, W and K of kind 10 from the variable o on: a start at time t whose subevent is shorter than a or longer than b; K alone
-- where a is 1
unfoldable pub outside_gates : (T a b s v t o : ℕ) → List Gate
outside_gates T a b s v t o =
    cond (eqb a 1) (and (pos (s + t) ∷ on_literals T v t 1 b) ∷ [])
    (and (on_literals T v t a b)
    ∷ or (map opp (on_literals T v t 1 (a - 1)) ++ pos o ∷ [])
    ∷ and (pos (s + t) ∷ pos (o + 1) ∷ [])
    ∷ [])

-- how many these are
abbrev pub outside_count : (a : ℕ) → ℕ
outside_count a = cond (eqb a 1) 1 3
