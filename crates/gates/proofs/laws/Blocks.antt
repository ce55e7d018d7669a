-- The words of each gate's clauses.
use mathlib.Core.Path.{◌≡◌}
use mathlib.Core.List.{List, [], ◌∷◌, map, flat_map}
use Prim.Native.Nat.{ℕ, ◌+◌, ◌*◌, ◌<◌}
use native.Mathlib.Omega.{arith}
use Rattle.scope.specs.Cnf.{pos, neg, opp, pairs, and, gate_clauses}
use Rattle.sink.specs.Run.{Ran}
use Rattle.sink.specs.Lines.{Line, clause_line}
use Rattle.sink.specs.World.{World}
use Rattle.sink.specs.Block.{mark, split, Marks}
use Rattle.sink.proofs.laws.Block.{marks}
pub use Rattle.counters.proofs.laws.Cells.{gate-ran}

-- the opposite of the opposite
pub opposite-twice : (l : ℕ) → opp (opp l) ≡ l
opposite-twice l = omega arith

-- kind 6's variable, the AND of c1 and not cj, and its clauses
pub short-block : {c1 cj o n1 nj : ℕ} → c1 < 2147483648 → cj < 2147483648 → o < 1073741824 → n1 ≡ opp c1 → nj ≡ opp cj
    → Marks (c1 ∷ (2 * o + 1 + 2147483648) ∷ nj ∷ (2 * o + 1 + 2147483648) ∷ n1 ∷ cj ∷ (2 * o + 2147483648) ∷ []) (gate_clauses (and (c1 ∷ opp cj ∷ [])) o)
unfolding gate_clauses pairs mark flat_map
short-block {c1} {cj} {o} s1 sj so e1 ej =
    rw (e1, ej, opposite-twice cj) (marks ((c1 ∷ neg o ∷ []) ∷ (opp cj ∷ neg o ∷ []) ∷ (opp c1 ∷ cj ∷ pos o ∷ []) ∷ []) (omega arith))

-- a unit
pub unit-block : {l : ℕ} → l < 2147483648 → Marks ((l + 2147483648) ∷ []) ((l ∷ []) ∷ [])
unfolding mark flat_map
unit-block {l} h = marks ((l ∷ []) ∷ []) (omega arith)

-- a run over a block's clauses is the run over those clauses
pub clauses-ran : {f : Line → World → World} {b : List ℕ} {cs : List (List ℕ)} {w w' : World} → Marks b cs
    → Ran f (map clause_line (split b)) w w' → Ran f (map clause_line cs) w w'
clauses-ran h r = rw h.clauses at r
