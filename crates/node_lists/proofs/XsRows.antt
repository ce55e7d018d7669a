-- X in groups that exist, by their rows.
use Prim.Native.Nat.{ℕ}
use mathlib.Core.Path.{◌≡◌, refl}
use mathlib.Core.List.{List}
use Rattle.parsing.specs.Each.{Each, each_none, each_more}
use Rattle.constraint.specs.declared.kinds.Head.{Head}
use Rattle.constraint.specs.Valid.{OneOf}
use Rattle.literals.specs.Tables.{group_in}
use Rattle.list_nodes.proofs.GroupRows.{known-row}
use Rattle.node_lists.specs.Cluster.{row_in, xs_of}

pub xs-rows : (T uses : ℕ) (groups : List ℕ) (h : Head) (r : ℕ) {hs : List ℕ} → Each (OneOf h.groups) hs
    → xs_of T uses (group_in h.groups groups) r hs ≡ xs_of T uses (row_in groups) r hs
xs-rows T uses groups h r each_none = refl
xs-rows T uses groups h r (each_more {x = g} o os) = rw (known-row groups h g o, xs-rows T uses groups h r os)
