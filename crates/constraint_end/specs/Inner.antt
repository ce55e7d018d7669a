-- The members but first and last of groups in the rows of a table.
use Rattle.std.specs.Prelude.{ℕ, ◌+◌, ◌-◌, ◌≤◌, List, [], ◌∷◌, length}
use Rattle.tables.specs.Rows.{row_at, RowIn}

-- group number h, from 1, is in the table
pub record GroupIn (t : List ℕ) (h : ℕ) : Type 0 where
  pub low : 1 ≤ h
  pub row : RowIn t (h - 1)

unfoldable pub inner_rows : List ℕ → List ℕ → ℕ
inner_rows t [] = 0
inner_rows t (h ∷ hs) = (length (row_at t (h - 1)) - 2) + inner_rows t hs
