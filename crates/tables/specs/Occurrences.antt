-- How often a member stands in rows; for the rows of events, how many events use a resource.
use Rattle.std.specs.Prelude.{ℕ, ◌+◌, ◌≡◌, List, [], ◌∷◌, cond, eqb, get_or}
use Rattle.tables.specs.Rows.{rows}

-- how often x stands in a list, and in some lists together
unfoldable pub occurrences : ℕ → List ℕ → ℕ
occurrences x [] = 0
occurrences x (y ∷ ys) = cond (eqb x y) 1 0 + occurrences x ys

unfoldable pub occurrences_in : ℕ → List (List ℕ) → ℕ
occurrences_in x [] = 0
occurrences_in x (r ∷ rs) = occurrences x r + occurrences_in x rs

-- counts[x] is how often x stands in the first n rows of a table
pub record Counted (t : List ℕ) (n : ℕ) (counts : List ℕ) : Type 0 where
  pub each : (x : ℕ) → get_or counts x 0 ≡ occurrences_in x (rows t n)
