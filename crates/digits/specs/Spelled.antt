-- A number's digits with a space after them, as four bytes from the start, of which fewer count where they are fewer, and four
-- up to the end.
use Rattle.std.specs.Prelude.{◌≡◌, List, [], ◌∷◌, ◌++◌, ℕ, ◌-◌, ◌/◌, ◌%◌, ◌≤◌, ◌<◌, length, take, drop}
use Rattle.scope.specs.Text.{decimal, space}

-- the bytes of a number below 2 ^ 32, the lowest first
abbrev pub four_bytes : ℕ → List ℕ
four_bytes b = b % 256 ∷ b / 256 % 256 ∷ b / 65536 % 256 ∷ b / 16777216 % 256 ∷ []

-- x and y are the first four and the last four of the n bytes of v and its space
pub record Spelt (v x y n : ℕ) : Type 0 where
  pub small : v < 10000000
  pub size : n ≡ length (decimal v ++ space)
  pub least : 2 ≤ n
  pub most : n ≤ 8
  pub first : take n (four_bytes x) ≡ take 4 (decimal v ++ space)
  pub last : 4 ≤ n → four_bytes y ≡ drop (n - 4) (decimal v ++ space)
