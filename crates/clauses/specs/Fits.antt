-- What the writer of a constraint is given, and the items that it writes.
use Rattle.std.specs.Prelude.{ℕ, List, take}
use Rattle.scope.specs.Cnf.{Item}
use Rattle.scope.specs.Kinds.{Kind}
use Rattle.constraint.specs.declared.kinds.Head.{Head}
use Rattle.user_table.specs.Filled.{users_at}
use Rattle.literals.specs.Tables.{group_in}
use Rattle.literals.specs.Numbered.{Numbered, numbered, all_numbered}
use Rattle.list_nodes.specs.Ground.{layout_of}
pub use Rattle.list_nodes.specs.Stored.{Fits}

-- the counted lists of a kind, from the tables of durations and of users and the rows of the groups
abbrev pub lists_in : (durations users groups : List ℕ) → Head → Kind → List Numbered
lists_in d users groups h k = numbered h.times (layout_of h) (take h.events d) (users_at users) (group_in h.groups groups) k

-- the items of a constraint of the weight w, from the variable v on
abbrev pub constraint_part : (durations users groups : List ℕ) → Head → Kind → (w v : ℕ) → List Item
constraint_part d users groups h k w v = all_numbered w (lists_in d users groups h k) v
