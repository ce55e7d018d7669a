-- What a list is filled from: the sizes of an instance, and the rows of its groups.
use Rattle.std.specs.Prelude.{ℕ, ◌≤◌, ◌<◌, List}
use Rattle.scope.specs.declared.Layout.{Layout}
use Rattle.scope.specs.Score.{layout_at}
use Rattle.parsing.specs.Numbers.{Ascending}
use Rattle.tables.specs.Rows.{row_at, RowsIn}
use Rattle.constraint.specs.declared.kinds.Head.{Head}

-- the sizes, and the rows of the groups, each of which ascends
pub record Ground (groups : List ℕ) (h : Head) : Type 0 where
  pub times : h.times ≤ 125
  pub events : h.events ≤ 1024
  pub resources : h.resources ≤ 255
  pub numbers : h.groups ≤ 2048
  pub rows : RowsIn groups h.groups
  pub ascends : (g : ℕ) → g < h.groups → Ascending h.times 0 (row_at groups g)

-- the numbering of the variables
abbrev pub layout_of : Head → Layout
layout_of h = layout_at h.times h.events h.resources

-- the sizes alone
pub record Sized (h : Head) : Type 0 where
  pub times : h.times ≤ 125
  pub events : h.events ≤ 1024
  pub resources : h.resources ≤ 255
