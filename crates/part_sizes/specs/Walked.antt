-- The walk over the constraints of a file: what it is lent, and what is known after each of them.
use Rattle.std.specs.Prelude.{ℕ, ◌+◌, ◌*◌, ◌≤◌, ◌≡◌, List, length}
use Rattle.tables.specs.Room.{group_room}
use Rattle.constraint.specs.declared.kinds.Head.{Head}
use Rattle.constraint.specs.Walk.{constraints_in}
use Rattle.instance.specs.Answers.{instance_of}
use Rattle.instance.specs.Laws.{Accepted}
use Rattle.user_table.specs.Users.{users_in}
use Rattle.user_table.specs.Filled.{Filled}
use Rattle.sizing.specs.declared.Size.{Size}
use Rattle.sizing.specs.Sums.{none, sum, Within, Fits64}
use Rattle.sizing.specs.Tail.{tail_add}
use Rattle.measuring.specs.Whole.{constraints_size, tail_after}
use Rattle.part_sizes.specs.declared.walk.Total.{Total}

-- a file that was accepted with its tables, and the table of users
pub record Tabled (s d te us tg : List ℕ) (h : Head) : Type 0 where
  pub accepted : Accepted s d te tg h
  pub filled : Filled us (users_in te h.events)

-- what the walk is lent
pub record Walkable (s d us tg list store : List ℕ) (h : Head) (cols : ℕ) (before : Size) : Type 0 where
  pub resources : List ℕ
  pub tabled : Tabled s d resources us tg h
  pub durations_long : length d ≡ 1024
  pub groups_long : group_room s * 126 ≤ length tg
  pub list_long : length list ≡ 2048
  pub store_long : length store ≡ 34816
  pub columns : cols ≤ 4096
  pub within : Within 2147483648 before

-- one constraint more can be added, and is
pub record Addable (t : Total) (cols : ℕ) (one : Size) : Type 0 where
  pub columns : cols ≤ 4096
  pub units : one.units ≤ 32768
  pub tail : Within 4611686018427387904 t.tail
  pub formula : Fits64 (sum t.formula one)

abbrev pub added : ℕ → Total → Size → ℕ → Total
added cols t one w = record { formula = sum t.formula one; tail = tail_add cols t.tail one.units w }

-- how large the total is after k constraints
pub record TotalWithin (k : ℕ) (t : Total) : Type 0 where
  pub formula : Within (2147483648 + k * 268435456) t.formula
  pub tail : Within (k * 2147483648) t.tail

-- the formula and the tail of an instance, after what stands before its constraints
pub record TotalOf (s d te tg : List ℕ) (h : Head) (cols : ℕ) (before : Size) (t : Total) : Type 0 where
  pub formula : t.formula ≡ sum before (constraints_size (instance_of s d te tg h) (constraints_in h s))
  pub tail : t.tail ≡ tail_after (instance_of s d te tg h) cols none (constraints_in h s)
  pub within : TotalWithin h.constraints t
