-- Lists at the front of a lent slice of words.
use Rattle.std.specs.Prelude.{ℕ, ◌≡◌, List, [], ◌∷◌, Bool, false, cond, eqb, length, take}

-- k is 1 where b is true, else 0
pub record Indicator (b : Bool) (k : ℕ) : Type 0 where
  pub is : k ≡ cond b 1 0

-- the first n words are the list xs
pub record Holds (words : List ℕ) (n : ℕ) (xs : List ℕ) : Type 0 where
  pub count : n ≡ length xs
  pub front : take n words ≡ xs

-- whether a list starts_with with x
unfoldable pub starts_with : ℕ → List ℕ → Bool
starts_with x [] = false
starts_with x (y ∷ ys) = eqb y x
