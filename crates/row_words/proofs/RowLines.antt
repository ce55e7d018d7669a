-- A row's clauses cell by cell, whatever is written of each.
use mathlib.Core.Path.{◌≡◌, sym, ap, ◌∙◌}
use mathlib.Core.List.{List, [], ◌++◌, flat_map}
use Prim.Native.Nat.{ℕ, suc, ◌+◌, ◌-◌, ◌≤◌, ◌<◌}
use native.Mathlib.Nat.{add-zero, sub-zero}
use native.Mathlib.Numerals.{add-one}
use native.Mathlib.Omega.{arith}
use Rattle.scope.specs.Cnf.{gate_clauses, hard_clauses}
use Rattle.scope.specs.Formula.{row}
use Rattle.sink.specs.Lines.{gates_clauses}
use Rattle.sink.proofs.laws.Lines.{flat_append}
use Rattle.sink.specs.World.{row_over}
use Rattle.row_words.specs.Cells.{cell_at}

-- the clauses of a row from column j + 1 on
abbrev pub cells_from : ℕ → ℕ → ℕ → ℕ → ℕ → ℕ → List (List ℕ)
cells_from x w prev first cols j = gates_clauses (first + j) (row (row_over prev) w x (suc j) (cols - j))

module _ (x w prev first cols : ℕ) where
  pub cells_start : cells_from x w prev first cols 0 ≡ gates_clauses first (row (row_over prev) w x 1 cols)
  cells_start = rw (add-zero, sub-zero)

  cells_turn : (j : ℕ) → j < cols → cells_from x w prev first cols j ≡ gate_clauses (cell_at x w prev j) (first + j) ++ cells_from x w prev first cols (j + 1)
  unfolding gates_clauses hard_clauses row
  cells_turn j h =
      let k : cols - j ≡ suc (cols - (j + 1)) = omega arith in
      let v : first + (j + 1) ≡ suc (first + j) = omega arith in
      rw (k, v, add-one j)

  pub put_turn : (f : List ℕ → List ℕ) (j : ℕ) → j < cols
      → flat_map f (cells_from x w prev first cols j) ≡ flat_map f (gate_clauses (cell_at x w prev j) (first + j)) ++ flat_map f (cells_from x w prev first cols (j + 1))
  put_turn f j h =
      ap (flat_map f) (cells_turn j h) ∙ flat_append f (gate_clauses (cell_at x w prev j) (first + j)) (cells_from x w prev first cols (j + 1))

  pub put_end : (f : List ℕ → List ℕ) (j : ℕ) → cols ≤ j → flat_map f (cells_from x w prev first cols j) ≡ []
  unfolding gates_clauses hard_clauses row flat_map
  put_end f j h = let k : cols - j ≡ 0 = omega arith in rw k

  -- the first cell, and the others
  pub put_first : (f : List ℕ → List ℕ) → 1 ≤ cols
      → flat_map f (gates_clauses first (row (row_over prev) w x 1 cols)) ≡ flat_map f (gate_clauses (cell_at x w prev 0) (first + 0)) ++ flat_map f (cells_from x w prev first cols 1)
  put_first f h = ap (flat_map f) (sym cells_start) ∙ put_turn f 0 (omega arith)
