-- What is known of an accepted file, its tables and the table of users, for the walk over them.
use Rattle.std.specs.Prelude.{ℕ, ◌≤◌, List}
use Rattle.constraint.specs.declared.kinds.Head.{Head}
use Rattle.instance.specs.Laws.{Accepted}
use Rattle.instance.specs.Stores.{Stores}

-- an accepted file with its tables, a store for a list, and a bound within its limit
pub record Opened (s d te tg list : List ℕ) (h : Head) (B : ℕ) : Type 0 where
  pub accepted : Accepted s d te tg h
  pub stores : Stores s d te tg list
  pub bound : B ≤ 4095
