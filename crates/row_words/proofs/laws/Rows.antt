-- The lines of a counter, cell by cell and row by row: what the loops keep: laws.
use mathlib.Core.Path.{◌≡◌, ◌∙◌}
use mathlib.Core.List.{List, [], ◌∷◌, ◌++◌, map}
use Prim.Native.Nat.{ℕ, suc, ◌+◌, ◌-◌, ◌*◌, ◌≤◌, ◌<◌}
use native.Mathlib.Nat.{add-zero, sub-zero}
use native.Mathlib.Numerals.{add-one}
use native.Mathlib.Omega.{arith}
use lib.ListN.{length, drop, get_or, drop_of_length-le}
use lib.Seq.{drop-cons}
use Rattle.scope.specs.Cnf.{Gate, gate, gates}
use Rattle.scope.specs.Formula.{row, counter, ones}
use Rattle.sink.specs.Lines.{Line, lines, lines-append}
use Rattle.sink.proofs.laws.Lines.{map-append}
use Rattle.sink.proofs.laws.Tails.{row_length, row-over}
use Rattle.sink.specs.World.{row_over}
use Rattle.row_words.specs.Cells.{cell_at}
use Rattle.row_words.specs.Rows.{gates-map}

-- the lines of a row from column j + 1 on
abbrev pub row_from : ℕ → ℕ → ℕ → ℕ → ℕ → ℕ → List Line
row_from x w prev first cols j = lines (first + j) (map gate (row (row_over prev) w x (suc j) (cols - j)))

module _ (x w prev first cols : ℕ) where
  pub row_start : row_from x w prev first cols 0 ≡ lines first (map gate (row (row_over prev) w x 1 cols))
  row_start = rw (add-zero, sub-zero)

  pub row_turn : (j : ℕ) → j < cols
      → row_from x w prev first cols j ≡ lines (first + j) (gate (cell_at x w prev j) ∷ []) ++ row_from x w prev first cols (j + 1)
  unfolding row
  row_turn j h =
      let k : cols - j ≡ suc (cols - (j + 1)) = omega arith in
      let v : first + (j + 1) ≡ first + j + 1 = omega arith in
      rw (k, v, add-one j) (lines-append (first + j) (gate (cell_at x w prev j) ∷ []) (map gate (row (row_over prev) w x (suc (suc j)) (cols - suc j))))

  pub row_end : (j : ℕ) → cols ≤ j → row_from x w prev first cols j ≡ []
  unfolding row lines
  row_end j h = let k : cols - j ≡ 0 = omega arith in rw k

-- the variables of the rows that are left
pub rows_left : (n i k : ℕ) → i < n → (n - i) * k ≡ k + (n - (i + 1)) * k
rows_left n i k h = let e : n - i ≡ suc (n - (i + 1)) = omega arith in rw e (omega arith)

-- the lines of a counter over the literals xs, from the variable v on, over the row at prev
abbrev pub counter_from : ℕ → ℕ → ℕ → List ℕ → List Line
counter_from cols prev v xs = lines v (map gate (counter (row_over prev) (ones xs) cols v))

module _ (cols prev v : ℕ) (xs : List ℕ) (i : ℕ) where
  pub counter_turn : 1 ≤ v → i < length xs
      → counter_from cols prev v (drop i xs)
      ≡ lines v (map gate (row (row_over prev) 1 (get_or xs i 0) 1 cols)) ++ counter_from cols v (v + cols) (drop (i + 1) xs)
  unfolding counter
  counter_turn s h =
      let one : List Gate = row (row_over prev) 1 (get_or xs i 0) 1 cols in
      let rest : List Gate = counter (row_over v) (ones (drop (suc i) xs)) cols (v + cols) in
      let n : gates (map gate one) ≡ cols = gates-map one ∙ row_length (row_over prev) 1 (get_or xs i 0) 1 cols in
      rw (drop-cons xs i 0 h, ← row-over v s, add-one i, map-append gate one rest, lines-append v (map gate one) (map gate rest), n)

  pub counter_end : length xs ≤ i → counter_from cols prev v (drop i xs) ≡ []
  unfolding counter lines
  counter_end h = rw (drop_of_length-le xs h)
