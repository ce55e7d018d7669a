-- What is known of numbers, references and lists that were read: their sizes, and where they end.
use Rattle.std.specs.Prelude.{ℕ, ◌≤◌, ◌<◌, List, [], ◌∷◌}

-- a strictly ascending list of numbers above one and up to n
pub data Ascending (n : ℕ) : ℕ → List ℕ → Type 0 where
  none : {before : ℕ} → Ascending n before []
  more : {before x : ℕ} {xs : List ℕ} → before < x → x ≤ n → Ascending n x xs → Ascending n before (x ∷ xs)
