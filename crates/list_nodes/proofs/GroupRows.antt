-- The times of a group that exists stand in its row.
use Prim.Native.Nat.{ℕ, ◌-◌}
use mathlib.Core.Path.{◌≡◌}
use mathlib.Core.List.{List}
use Rattle.tables.specs.Rows.{row_at}
use Rattle.tables.proofs.laws.Laws.{group_row}
use Rattle.constraint.specs.declared.kinds.Head.{Head}
use Rattle.constraint.specs.Valid.{OneOf}
use Rattle.literals.specs.Tables.{group_in}

pub known-row : (groups : List ℕ) (h : Head) (g : ℕ) → OneOf h.groups g → group_in h.groups groups g ≡ row_at groups (g - 1)
known-row groups h g o = group_row groups h.groups g o.low o.high
