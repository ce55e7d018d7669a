-- What the writer of the blocks before the constraints is lent: laws.
use mathlib.Core.List.{List}
use mathlib.Core.Path.{◌≡◌}
use Prim.Native.Nat.{ℕ, ◌+◌, ◌*◌, ◌≤◌}
use native.Mathlib.Nat.{mul-le-mul}
use native.Mathlib.Omega.{arith}
use lib.ListN.{take}
use Rattle.constraint.specs.declared.kinds.Head.{Head}
use Rattle.literals.proofs.laws.Variables.{Sizes, layout-sizes}
use Rattle.user_table.specs.Filled.{users_at, UserRows}
use Rattle.literals.specs.Numbered.{all_numbered, duration_lists}
use Rattle.list_nodes.specs.Ground.{layout_of}
use Rattle.items.specs.Written.{Room}
use Rattle.blocks.specs.Durations.{Durations}
use Rattle.clauses.specs.Before.{blocks_room}
use Rattle.clauses.specs.Blocks.{Begun}

-- so each of their writers can be called, from the variables v and u on
module _ {d us : List ℕ} {h : Head} (b : Begun d us h) where
  pub begun_sizes : Sizes h.times (layout_of h)
  begun_sizes =
      layout-sizes h.times h.events h.resources b.durations.times b.durations.events (omega (arith, b.resources))

  pub begun_count : h.resources * h.times ≤ 12375
  begun_count = omega (arith, mul-le-mul {n₁ = h.resources} {m₁ = h.times} {n₂ = 99} {m₂ = 125} b.resources b.durations.times)

  pub begun_uses : {v : ℕ} → v ≡ (layout_of h).primary + 1
      → UserRows us × ((h.resources ≤ 99) × ((h.times ≤ 125) × ((1 ≤ v) × (v + h.resources * h.times ≤ 1073741824))))
  begun_uses e = (
    b.rows,
    (b.resources, (b.durations.times, (omega arith, omega (arith, begun_sizes.primary, begun_count)))),
  )

  pub begun_durations : {u : ℕ} → u ≡ (layout_of h).others + 1
      → Durations d h.events h.times × Room u (all_numbered 0 (duration_lists h.times 1 (take h.events d)) u)
  begun_durations {u} e = (
    b.durations,
    blocks_room h.times (users_at us) h.events h.resources (take h.events d) e b.room,
  )
