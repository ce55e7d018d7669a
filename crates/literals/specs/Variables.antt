-- The literals of Y, S and X by numbers. Each of the three is a block of variables, one row of T for each event or resource.
use Rattle.std.specs.Prelude.{ℕ, ◌+◌, ◌-◌, ◌*◌, ◌≤◌, ◌<◌, ◌≡◌, List}
use Rattle.scope.specs.Cnf.{pos}
use Rattle.tables.specs.Rows.{RowIn}

-- the last variable before row k, from 1, of a block after `before` variables
unfoldable pub base_of : (before T k : ℕ) → ℕ
base_of before T k = before + (k - 1) * T

-- the literal of the variable t after a base
unfoldable pub literal_at : (base t : ℕ) → ℕ
literal_at base t = pos (base + t)

-- at time t of row k, in the block after `before` variables
abbrev pub in_block : (T before k t : ℕ) → ℕ
in_block T before k t = literal_at (base_of before T k) t

-- the literals Y e t, S e t and X r t
abbrev pub y_at : (T e t : ℕ) → ℕ
y_at T e t = in_block T 0 e t

-- what a block of rows of T keeps to
pub record Block (T before : ℕ) : Type 0 where
  pub times : T ≤ 125
  pub small : before ≤ 256000

-- a number of one of n things, from 1
pub record Within (n x : ℕ) : Type 0 where
  pub low : 1 ≤ x
  pub high : x ≤ n

-- a number of a group, from 1: the table has its row
pub record GroupIn (t : List ℕ) (g : ℕ) : Type 0 where
  pub low : 1 ≤ g
  pub row : RowIn t (g - 1)

-- what a base is, and that it is small
pub record Based (before T k base : ℕ) : Type 0 where
  pub value : base ≡ base_of before T k
  pub small : base < 524288
