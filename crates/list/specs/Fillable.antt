-- What is given where a list is filled, and what it says of each kind.
use Rattle.std.specs.Prelude.{ℕ, ◌+◌, ◌≤◌, ◌≡◌, List, length}
use Rattle.scope.specs.Kinds.{Kind}
use Rattle.constraint.specs.declared.kinds.Head.{Head}
use Rattle.user_table.specs.Filled.{users_at}
use Rattle.list_nodes.specs.Stored.{counted_in, list_in, Fits}

-- list number t of a constraint that fits, its nodes the variables from v on, and the store
pub record Fillable (durations users groups list : List ℕ) (h : Head) (k : Kind) (t v : ℕ) (words : List ℕ) : Type 0 where
  pub fits : Fits durations users groups list h k
  pub first : 1 ≤ t
  pub last : t ≤ length (counted_in durations (users_at users) groups h k).lists
  pub small : v + length (list_in durations (users_at users) groups h k t).nodes ≤ 8000001
  pub room : length words ≡ 34816
