-- Kind 11's list by numbers: y and z are the last variables before Y of the first event and of the second, v is the variable of the
-- first node, which is F of time 1 if there is one.
use Rattle.std.specs.Prelude.{ℕ, zero, suc, ◌+◌, ◌-◌, min, List, [], ◌∷◌, ◌++◌, map, Bool, true, false, cond}
use Rattle.scope.specs.Cnf.{pos, neg, Gate, or, and}
use Rattle.scope.specs.Kinds.{from, up_to, early, late, before_g, before_q}
use Rattle.literals.specs.Outputs.{every}

-- the variable after x, or the one before it; n variables from x on, one after another that way
abbrev pub next_to : (up : Bool) (x : ℕ) → ℕ
next_to up x = cond up (x + 1) (x - 1)

unfoldable pub stepping : (up : Bool) (x n : ℕ) → List ℕ
stepping up x zero = []
stepping up x (suc n) = x ∷ stepping up (next_to up x) n

-- the ORs of a chain after the one with the output p: each of one variable more and of the OR before it
unfoldable pub more_gates : (p : ℕ) → List ℕ → List Gate
more_gates p [] = []
more_gates p (x ∷ xs) = or (pos x ∷ pos p ∷ []) ∷ more_gates (suc p) xs

-- a chain of n ORs from the variable o on, if any: the first is of some literals
unfoldable pub chain_gates : (n : ℕ) (first more : List ℕ) (o : ℕ) → List Gate
chain_gates zero first more o = []
chain_gates (suc n) first more o = or first ∷ more_gates o more

-- P of the times 2 to n
abbrev pub soon_gate : (y v t : ℕ) → Gate
soon_gate y v t = and (pos (y + t) ∷ pos (v + (t - 1)) ∷ [])

unfoldable pub soon_gates : (y n v : ℕ) → List Gate
soon_gates y n v = map (soon_gate y v) (from 2 (n - 1))

-- Q of the times 1 to n, from the variable q on; G of time 1 is the variable before q
abbrev pub late_gate : (lo hi v q t : ℕ) → Gate
late_gate lo hi v q t = and (neg (v + (t + hi - lo)) ∷ neg (q - t) ∷ [])

unfoldable pub late_gates : (lo hi n v q : ℕ) → List Gate
late_gates lo hi n v q = map (late_gate lo hi v q) (up_to n)

-- the inputs of O: Y of the first event after time e, F of time 1 if there is one, P, and the n that are Q, from the variable q on
abbrev pub either_inputs : (T y e n v q : ℕ) → List ℕ
either_inputs T y e n v q = every 1 (y + (e + 1)) (T - e) ++ (every 1 v (min e 1) ++ (every 1 (v + e) (e - 1) ++ every 1 q n))

-- the five one after another
module _ (T y z lo hi v : ℕ) where
  abbrev pub begun_gates : List Gate
  begun_gates = chain_gates (early T lo) (every 1 (z + 1) (lo + 1)) (stepping true (z + (lo + 2)) (early T lo - 1)) v

  abbrev pub lasting_gates : List Gate
  lasting_gates =
      chain_gates (late T hi) (every 1 (y + (late T hi + 1)) (T - late T hi)) (stepping false (y + late T hi) (late T hi - 1)) (v + before_g T lo)

  unfoldable pub gap_gates : List Gate
  gap_gates =
      begun_gates
      ++ (soon_gates y (early T lo) v
      ++ (lasting_gates
      ++ (late_gates lo hi (late T hi) v (v + before_q T lo hi)
      ++ or (either_inputs T y (early T lo) (late T hi) v (v + before_q T lo hi)) ∷ [])))
