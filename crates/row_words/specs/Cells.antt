-- The words of a counter's cells.
use Rattle.std.specs.Prelude.{◌≡◌, List, [], ◌∷◌, ◌++◌, ℕ, suc, ◌+◌, ◌-◌, ◌≤◌, length}
use Rattle.std.proofs.lemmas.List.Edits.{sets}
use Rattle.scope.specs.Cnf.{pos, neg, opp, Gate, cell}
use Rattle.sink.specs.World.{row_over}
use Rattle.sink.specs.Block.{Marks}

-- the cell in column j of the row at first, over the row at prev
abbrev pub cell_at : ℕ → ℕ → ℕ → ℕ → Gate
cell_at x w prev j = cell x (row_over prev (suc j)) (row_over prev (suc j - w))

-- the block of a cell's clauses stored from the place a up to n
pub record StoredAt (a n : ℕ) (l l' : List ℕ) (cs : List (List ℕ)) : Type 0 where
  pub block : List ℕ
  pub marked : Marks block cs
  pub few : length block ≤ 11
  pub stored : l' ≡ sets l a block
  pub end : n ≡ a + length block

-- words stored from the place a up to n
pub record WordsAt (a n : ℕ) (l l' block : List ℕ) : Type 0 where
  pub stored : l' ≡ sets l a block
  pub end : n ≡ a + length block

-- the clauses of a later row's cell by variables: over x, a above it and b a column before that, with the output o
abbrev pub upper_clauses : ℕ → ℕ → ℕ → ℕ → List (List ℕ)
upper_clauses x a b o = (neg a ∷ pos o ∷ []) ∷ (opp x ∷ neg b ∷ pos o ∷ []) ∷ []

abbrev pub lower_clauses : ℕ → ℕ → ℕ → ℕ → List (List ℕ)
lower_clauses x a b o = (x ∷ pos a ∷ neg o ∷ []) ∷ (pos b ∷ pos a ∷ neg o ∷ []) ∷ []

abbrev pub full_clauses : ℕ → ℕ → ℕ → ℕ → List (List ℕ)
full_clauses x a b o = upper_clauses x a b o ++ lower_clauses x a b o

-- and of one that the weight reaches
abbrev pub low_clauses : ℕ → ℕ → ℕ → List (List ℕ)
low_clauses x a o = (neg a ∷ pos o ∷ []) ∷ (opp x ∷ pos o ∷ []) ∷ (x ∷ pos a ∷ neg o ∷ []) ∷ []
