-- Items that a writer ran, and what its loop keeps: the items that are left, from the next variable on: laws.
use mathlib.Core.Path.{◌≡◌}
use mathlib.Core.List.{List, ◌++◌}
use Prim.Native.Nat.{ℕ, ◌+◌}
use native.Mathlib.Omega.{arith}
use Rattle.scope.specs.Cnf.{Item, gates}
use Rattle.items.specs.Written.{gates_both, Room}

-- the same room
pub room-same : {v : ℕ} {is js : List Item} → is ≡ js → Room v is → Room v js
room-same e r = rw e at r

-- some items and then others
module _ {v : ℕ} (is js : List Item) where
  pub room_first : Room v (is ++ js) → Room v is
  room_first r = record { some = r.some; small = omega (arith, gates_both is js, r.small) }

  pub room_rest : Room v (is ++ js) → Room (v + gates is) js
  room_rest r = record { some = omega (arith, r.some); small = omega (arith, gates_both is js, r.small) }
