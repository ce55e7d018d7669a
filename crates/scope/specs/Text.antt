-- Text for solvers: the older "p wcnf" form.
use Rattle.std.specs.Prelude.{cond, ℕ, zero, suc, ◌+◌, ◌/◌, ◌%◌, length, ltb, eqb}
use mathlib.Core.List.{List, [], ◌∷◌, ◌++◌, flat_map}
use Rattle.scope.specs.Instance.{Instance}
use Rattle.scope.specs.Formula.{variables, hard_of, soft_of}

-- a number in decimal digits, at most k + 1 of them
unfoldable pub digits : ℕ → ℕ → List ℕ
digits zero n = (48 + n % 10) ∷ []
digits (suc k) n = cond (ltb n 10) [] (digits k (n / 10)) ++ (48 + n % 10) ∷ []

-- every amount is below 2^64, so it has at most 20 digits
abbrev pub decimal : ℕ → List ℕ
decimal n = digits 19 n

-- the byte strings "p wcnf ", " " and " 0" with byte 10
abbrev pub header : List ℕ
header = 112 ∷ 32 ∷ 119 ∷ 99 ∷ 110 ∷ 102 ∷ 32 ∷ []

abbrev pub space : List ℕ
space = 32 ∷ []

abbrev pub newline : List ℕ
newline = 10 ∷ []

-- a literal with its sign, and a space
unfoldable pub literal_text : ℕ → List ℕ
literal_text l = cond (eqb (l % 2) 1) (45 ∷ []) [] ++ decimal (l / 2) ++ space

-- a line: a weight, the literals, 0
unfoldable pub line : ℕ → List ℕ → List ℕ
line w c = decimal w ++ space ++ flat_map literal_text c ++ 48 ∷ newline

-- top = 1 + sum of soft weights
unfoldable pub sum_weights : List (ℕ × ℕ) → ℕ
sum_weights [] = 0
sum_weights (u ∷ us) = u.0 + sum_weights us

module _ (i : Instance) where
  unfoldable pub top : ℕ
  top = 1 + sum_weights (soft_of i)

  -- "p wcnf V C top", C including soft units
  unfoldable pub header_line : List ℕ
  header_line =
      header
      ++ decimal (variables i)
      ++ space
      ++ decimal (length (hard_of i) + length (soft_of i))
      ++ space
      ++ decimal top
      ++ newline

  unfoldable pub text : List ℕ
  text = header_line ++ flat_map (line top) (hard_of i) ++ flat_map (λ u. line u.0 (u.1 ∷ [])) (soft_of i)
