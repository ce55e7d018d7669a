-- The lines of a formula: its items flattened in order to hard clauses and soft units.
use Rattle.std.specs.Prelude.{◌≡◌, List, [], ◌∷◌, ◌++◌, map, ℕ, suc, ◌+◌}
use Rattle.std.proofs.Common.{ap, sym, append_assoc, add-zero, arith}
use Rattle.scope.specs.Cnf.{Gate, gate_clauses, Item, gate, hard, soft, hard_clauses, gates}

-- a hard clause, or a soft unit with its weight
pub data Line : Type 0 where
  clause_line : List ℕ → Line
  soft_line : (weight literal : ℕ) → Line

-- the lines of some items, where n is the variable of the first gate's output
unfoldable pub lines : ℕ → List Item → List Line
lines n [] = []
lines n (gate g ∷ is) = map clause_line (gate_clauses g n) ++ lines (suc n) is
lines n (hard c ∷ is) = clause_line c ∷ lines n is
lines n (soft w l ∷ is) = soft_line w l ∷ lines n is

-- items after others: their gates' outputs come after those of the others
pub lines-append : (n : ℕ) (is js : List Item) → lines n (is ++ js) ≡ lines n is ++ lines (n + gates is) js
unfolding lines
lines-append n [] js = rw add-zero
lines-append n (gate g ∷ is) js =
    let e : n + suc (gates is) ≡ suc n + gates is = omega arith in
    rw (e, lines-append (suc n) is js) (sym (append_assoc (map clause_line (gate_clauses g n)) (lines (suc n) is) (lines (suc n + gates is) js)))
lines-append n (hard c ∷ is) js = ap (◌∷◌ (clause_line c)) (lines-append n is js)
lines-append n (soft w l ∷ is) js = ap (◌∷◌ (soft_line w l)) (lines-append n is js)

-- the clauses of gates alone, the first of which has the output n
unfoldable pub gates_clauses : ℕ → List Gate → List (List ℕ)
gates_clauses n gs = hard_clauses n (map gate gs)
