-- Sizes of formulas: how they add up, how often one is taken, and how large they are at most: laws.
use mathlib.Core.Path.{◌≡◌}
use Prim.Native.Nat.{ℕ, suc, ◌+◌, ◌*◌, ◌≤◌}
use native.Mathlib.Nat.{mul-le-mul_left}
use native.Mathlib.Omega.{arith}
use Rattle.sizing.specs.declared.Size.{Size}
use Rattle.sizing.specs.Sums.{none, sum, multiple, Within}

-- two sizes with the same numbers
pub record Same (a b : Size) : Type 0 where
  pub variables : a.variables ≡ b.variables
  pub clauses : a.clauses ≡ b.clauses
  pub words : a.words ≡ b.words
  pub units : a.units ≡ b.units
  pub weight : a.weight ≡ b.weight

-- two sizes with the same numbers are equal
pub equal : {a b : Size} → Same a b → a ≡ b
equal s =
    λ i.
    record {
      variables = s.variables i;
      clauses = s.clauses i;
      words = s.words i;
      units = s.units i;
      weight = s.weight i;
    }

-- nothing more, in any order, and one part more
pub none-sum : (a : Size) → sum none a ≡ a
unfolding none sum
none-sum a = equal (omega arith)

pub sum-none : (a : Size) → sum a none ≡ a
unfolding none sum
sum-none a = equal (omega arith)

pub sum-assoc : (a b c : Size) → sum (sum a b) c ≡ sum a (sum b c)
unfolding sum
sum-assoc a b c = equal (omega arith)

pub multiple-zero : (a : Size) → multiple 0 a ≡ none
unfolding none multiple
multiple-zero a = equal (omega arith)

pub multiple-suc : (k : ℕ) (a : Size) → multiple (suc k) a ≡ sum a (multiple k a)
unfolding sum multiple
multiple-suc k a = equal (omega arith)

-- a higher limit, nothing, and parts together
pub within_more : {m n : ℕ} {a : Size} → m ≤ n → Within m a → Within n a
within_more h w = omega arith

pub within_none : (m : ℕ) → Within m none
unfolding none
within_none m = omega arith

pub within-sum : (m n : ℕ) (a b : Size) → Within m a → Within n b → Within (m + n) (sum a b)
unfolding sum
within-sum m n a b v w = omega arith

-- a part is within what the whole is within
pub within-part : (m : ℕ) (a b : Size) → Within m (sum a b) → Within m a
unfolding sum
within-part m a b w = omega arith

-- many parts
pub within-multiple : (k m : ℕ) (a : Size) → Within m a → Within (k * m) (multiple k a)
unfolding multiple
within-multiple k m a w =
    record {
      variables = mul-le-mul_left k w.variables;
      clauses = mul-le-mul_left k w.clauses;
      words = mul-le-mul_left k w.words;
      units = mul-le-mul_left k w.units;
      weight = mul-le-mul_left k w.weight;
    }
