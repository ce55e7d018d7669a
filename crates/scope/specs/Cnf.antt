-- Literals, clauses, gates, and what an assignment makes of them.
-- Literal v is 2v, not v is 2v + 1. There is no variable 0: its literals 0 and 1 are the constants false and true.
use Rattle.std.specs.Prelude.{Bool, true, false, not, ◌&&◌, ◌||◌, cond, List, [], ◌∷◌, ◌++◌, map, ℕ, zero, suc, ◌+◌, ◌-◌, ◌*◌, ◌/◌, ◌%◌, get_or, eqb}

-- a value for each variable
abbrev pub Assignment : Type 0
Assignment = ℕ → Bool

-- variable v is byte v of the bytes, counted from 1
unfoldable pub bit : List ℕ → Assignment
bit m zero = false
bit m (suc k) = eqb (get_or m k 0) 1

abbrev pub pos : ℕ → ℕ
pos v = 2 * v

abbrev pub neg : ℕ → ℕ
neg v = 2 * v + 1

-- the opposite literal
abbrev pub opp : ℕ → ℕ
opp l = l + 1 - 2 * (l % 2)

-- whether a literal, a clause, all clauses are true
abbrev pub signed : ℕ → Bool → Bool
signed zero b = b
signed (suc k) b = not b

unfoldable pub lit : Assignment → ℕ → Bool
lit ν l = signed (l % 2) (ν (l / 2))

unfoldable pub clause : Assignment → List ℕ → Bool
clause ν [] = false
clause ν (l ∷ ls) = lit ν l || clause ν ls

unfoldable pub clauses : Assignment → List (List ℕ) → Bool
clauses ν [] = true
clauses ν (c ∷ cs) = clause ν c && clauses ν cs

-- "a clause with a true constant is dropped, a false constant is left out"
unfoldable pub has_true : List ℕ → Bool
has_true [] = false
has_true (l ∷ ls) = eqb l 1 || has_true ls

unfoldable pub without_false : List ℕ → List ℕ
without_false [] = []
without_false (l ∷ ls) = cond (eqb l 0) (without_false ls) (l ∷ without_false ls)

unfoldable pub tidy : List ℕ → List (List ℕ)
tidy c = cond (has_true c) [] (without_false c ∷ [])

-- What makes a variable, its output, a function of earlier literals: an OR; an AND; a counter's cell, from x and the literals
-- a and b of the row above
pub data Gate : Type 0 where
  or : (ls : List ℕ) → Gate
  and : (ls : List ℕ) → Gate
  cell : (x a b : ℕ) → Gate

-- (l, p) for each l
unfoldable pub pairs : List ℕ → ℕ → List (List ℕ)
pairs [] p = []
pairs (l ∷ ls) p = (l ∷ p ∷ []) ∷ pairs ls p

-- the clauses of a gate whose output is the variable o: of an OR (not l, o) for each l and (all l, not o), of an AND (l, not o)
-- for each l and (all not l, o)
unfoldable pub gate_clauses : Gate → ℕ → List (List ℕ)
gate_clauses (or ls) o = pairs (map opp ls) (pos o) ++ (ls ++ neg o ∷ []) ∷ []
gate_clauses (and ls) o = pairs ls (neg o) ++ (map opp ls ++ pos o ∷ []) ∷ []
gate_clauses (cell x a b) o =
    tidy (opp a ∷ pos o ∷ []) ++ tidy (opp x ∷ opp b ∷ pos o ∷ []) ++ tidy (x ∷ a ∷ neg o ∷ []) ++ tidy (b ∷ a ∷ neg o ∷ [])

-- An item of a formula: a gate, whose output is the next variable; a hard clause; a soft unit with its weight
pub data Item : Type 0 where
  gate : Gate → Item
  hard : List ℕ → Item
  soft : (weight literal : ℕ) → Item

-- the hard clauses of some items, where n is the variable of the first gate's output
unfoldable pub hard_clauses : ℕ → List Item → List (List ℕ)
hard_clauses n [] = []
hard_clauses n (gate g ∷ is) = gate_clauses g n ++ hard_clauses (suc n) is
hard_clauses n (hard c ∷ is) = c ∷ hard_clauses n is
hard_clauses n (soft w l ∷ is) = hard_clauses n is

-- how many gates, and so variables
abbrev pub gates : List Item → ℕ
gates [] = 0
gates (gate g ∷ is) = suc (gates is)
gates (hard c ∷ is) = gates is
gates (soft w l ∷ is) = gates is

-- the soft units, each a weight and a literal
unfoldable pub soft_units : List Item → List (ℕ × ℕ)
soft_units [] = []
soft_units (gate g ∷ is) = soft_units is
soft_units (hard c ∷ is) = soft_units is
soft_units (soft w l ∷ is) = (w, l) ∷ soft_units is

-- the weight of the soft units that an assignment falsifies
unfoldable pub falsified : Assignment → List (ℕ × ℕ) → ℕ
falsified ν [] = 0
falsified ν (u ∷ us) = cond (lit ν u.1) 0 u.0 + falsified ν us
