-- What a list is filled from: the sizes of an instance, and the rows of its groups: laws.
use Prim.Native.Nat.{ℕ, ◌-◌, ◌≤◌, ◌<◌}
use mathlib.Core.Path.{◌≡◌}
use mathlib.Core.List.{List}
use lib.ListN.{length, get_or}
use native.Mathlib.Omega.{arith}
use Rattle.parsing.specs.Each.{Each, each_none, each_more}
use Rattle.parsing.proofs.laws.Each.{each_at, each_map}
use Rattle.parsing.specs.Numbers.{Ascending, none, more}
use Rattle.parsing.proofs.laws.Numbers.{ascending-length}
use Rattle.number.specs.Lists.{leading}
use Rattle.number.proofs.laws.Lists.{length-leading, get_d-leading}
use Rattle.tables.specs.Rows.{row_at}
use Rattle.constraint.specs.declared.kinds.Head.{Head}
use Rattle.constraint.specs.Valid.{OneOf}
use Rattle.literals.specs.Variables.{Within, GroupIn}
use Rattle.literals.proofs.laws.Variables.{Sizes, layout-sizes}
use Rattle.list_nodes.specs.Ground.{Ground, layout_of, Sized}

pub sized : {groups : List ℕ} {h : Head} → Ground groups h → Sized h
sized g = record { times = g.times; events = g.events; resources = g.resources }

pub head-sizes : {h : Head} → Sized h → Sizes h.times (layout_of h)
head-sizes {h} s = layout-sizes h.times h.events h.resources s.times s.events s.resources

-- one of a list that stands in a store
pub leading_at : (l : List ℕ) (n i : ℕ) {P : ℕ → Type 0} → Each P (leading n l) → i < n → P (get_or l i 0)
leading_at l n i e h = rw (get_d-leading n l i h) at (each_at i 0 e (rw length-leading h))

module _ {groups : List ℕ} {h : Head} (g : Ground groups h) where
  pub ground_sizes : Sizes h.times (layout_of h)
  ground_sizes = layout-sizes h.times h.events h.resources g.times g.events g.resources

  -- an event, a resource and a group that exist
  pub ground_event : {e : ℕ} → OneOf h.events e → Within 1024 e
  ground_event o = record { low = o.low; high = omega (arith, o.high, g.events) }

  pub ground_resource : {r : ℕ} → OneOf h.resources r → Within 1024 r
  ground_resource o = record { low = o.low; high = omega (arith, o.high, g.resources) }

  pub ground_group : {n : ℕ} → OneOf h.groups n → GroupIn groups n
  ground_group {n} o = record { low = o.low; row = g.rows.each (n - 1) (omega (arith, o.low, o.high)) }

  pub ground_ascends : {n : ℕ} → OneOf h.groups n → Ascending h.times 0 (row_at groups (n - 1))
  ground_ascends {n} o = g.ascends (n - 1) (omega (arith, o.low, o.high))

  -- the members of a list of groups, and of a list of events
  pub ground_groups : {before : ℕ} {hs : List ℕ} → Ascending h.groups before hs → Each (OneOf h.groups) hs
  ground_groups none = each_none
  ground_groups (more {x = x} a b r) = each_more {x = x} (record { low = omega arith; high = b }) (ground_groups r)

  pub ground_events : {before : ℕ} {es : List ℕ} → Ascending h.events before es → Each (Within 1024) es
  ground_events none = each_none
  ground_events (more {x = x} a b r) = each_more {x = x} (record { low = omega arith; high = omega (arith, g.events) }) (ground_events r)

  -- a list of events, and one of groups, stands in the store
  pub events_room : (list : List ℕ) (n : ℕ) → length list ≡ 2048 → Ascending h.events 0 (leading n list) → n ≤ length list
  events_room list n s a =
      omega (arith, g.events, length-leading n list, ascending-length h.events 0 (leading n list) a (omega arith))

  pub groups_room : (list : List ℕ) (n : ℕ) → length list ≡ 2048 → Ascending h.groups 0 (leading n list) → n ≤ length list
  groups_room list n s a =
      omega (arith, g.numbers, length-leading n list, ascending-length h.groups 0 (leading n list) a (omega arith))

  -- the rows of a list of groups are short
  pub rows_short : {hs : List ℕ} → Each (OneOf h.groups) hs → Each (λ n. length (row_at groups (n - 1)) ≤ 125) hs
  rows_short os = each_map (λ n o. (ground_group o).row.count) os
