-- The walk over the constraints of a file: what it is lent, and what is known after each of them.
use Rattle.std.specs.Prelude.{◌≡◌, List, ℕ, ◌*◌, ◌≤◌, length, take}
use Rattle.scope.specs.Kinds.{Constraint}
use Rattle.scope.specs.Cnf.{Item}
use Rattle.tables.specs.Room.{group_room}
use Rattle.constraint.specs.declared.kinds.Head.{Head}
use Rattle.constraint.specs.Walk.{constraints_in}
use Rattle.instance.specs.Laws.{Accepted}
use Rattle.user_table.specs.Users.{users_in}
use Rattle.user_table.specs.Filled.{Filled, users_at}
use Rattle.literals.specs.Numbered.{constraint_items}
use Rattle.literals.specs.Tables.{group_in}
use Rattle.list_nodes.specs.Ground.{layout_of}
use Rattle.items.specs.Written.{Room}

-- the items of some constraints, from the variable v on
abbrev pub items_of : (durations users groups : List ℕ) → Head → List Constraint → ℕ → List Item
items_of d us tg h cs v = constraint_items h.times (layout_of h) (take h.events d) (users_at us) (group_in h.groups tg) cs v

-- what the walk is lent: a file that was accepted with its tables, the table of users, and room for its constraints' variables from v on
pub record Walkable (s d us tg list : List ℕ) (h : Head) (v : ℕ) : Type 0 where
  pub resources : List ℕ
  pub accepted : Accepted s d resources tg h
  pub filled : Filled us (users_in resources h.events)
  pub durations_long : length d ≡ 1024
  pub groups_long : group_room s * 126 ≤ length tg
  pub list_long : length list ≡ 2048
  pub room : Room v (items_of d us tg h (constraints_in h s) v)
