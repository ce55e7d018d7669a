-- Clauses in the words, the last word of each marked, and the rows that are made of them.
use Rattle.std.specs.Prelude.{◌≡◌, cond, ℕ, suc, ◌+◌, ◌-◌, leb, length, take, drop}
use mathlib.Core.List.{List, [], ◌∷◌, ◌++◌, flat_map}
use Rattle.std.proofs.lemmas.List.Edits.{sets}
use Rattle.directory.specs.declared.Row.{Row}
use Rattle.directory.specs.Rows.{new_row}
unfoldable pub use Rattle.sink.specs.Block.{mark}
pub use Rattle.sink.specs.Block.{Small, Plain}

-- the words of clauses
abbrev pub flat : List (List ℕ) → List ℕ
flat f = flat_map (λ c. c) f

-- the rows of clauses one after the other, the first with an id and a first word
unfoldable pub rows_for : ℕ → ℕ → List (List ℕ) → List Row
rows_for id first [] = []
rows_for id first (c ∷ cs) = new_row id first (length c) ∷ rows_for (suc id) (first + length c) cs

-- the row of the clause that comes after n others, in the words from first to next
abbrev pub row_between : ℕ → ℕ → ℕ → Row
row_between n first next = new_row (n + 1) first (next - first)

-- The first clause that stands in words: it ends with a word that is marked by 2 ^ 31, and loses the mark, or with the words
unfoldable pub first_clause : List ℕ → List ℕ
first_clause [] = []
first_clause (w ∷ ws) = cond (leb 2147483648 w) ((w - 2147483648) ∷ []) (w ∷ first_clause ws)

-- a word more at the front of the first of some clauses
abbrev pub joined : ℕ → List (List ℕ) → List (List ℕ)
joined w [] = (w ∷ []) ∷ []
joined w (c ∷ cs) = (w ∷ c) ∷ cs

-- the clauses that stand in words
unfoldable pub parted : List ℕ → List (List ℕ)
parted [] = []
parted (w ∷ ws) = cond (leb 2147483648 w) (((w - 2147483648) ∷ []) ∷ parted ws) (joined w (parted ws))

-- what it leaves of any words ws and rows ys, of which the first total words are looked at
pub record Built (ws ws' : List ℕ) (ys ys' : List Row) (total n : ℕ) : Type 0 where
  pub count : n ≡ length (parted (take total ws))
  pub words : ws' ≡ flat (parted (take total ws)) ++ drop total ws
  pub rows : ys' ≡ sets ys 0 (rows_for 1 0 (parted (take total ws)))
