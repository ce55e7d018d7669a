-- What the writer of the blocks before the constraints is lent.
use Rattle.std.specs.Prelude.{List, ℕ, ◌+◌, ◌≤◌, take}
use Rattle.scope.specs.Cnf.{Item}
use Rattle.constraint.specs.declared.kinds.Head.{Head}
use Rattle.user_table.specs.Filled.{users_at, UserRows}
use Rattle.list_nodes.specs.Ground.{layout_of}
use Rattle.items.specs.Written.{Room}
use Rattle.blocks.specs.Durations.{Durations}
use Rattle.clauses.specs.Before.{block_items}

-- the items of the blocks, by the tables
abbrev pub before_items : (durations users : List ℕ) → Head → List Item
before_items d us h = block_items h.times (users_at us) h.events h.resources (take h.events d)

pub record Begun (d us : List ℕ) (h : Head) : Type 0 where
  pub durations : Durations d h.events h.times
  pub resources : h.resources ≤ 99
  pub rows : UserRows us
  pub room : Room ((layout_of h).primary + 1) (before_items d us h)
