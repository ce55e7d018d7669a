-- How many rows the groups of a file may need: laws.
use Prim.Native.Nat.{ℕ, ◌*◌, ◌≤◌}
use mathlib.Core.Path.{◌≡◌, refl}
use mathlib.Core.Bool.{Bool, true, false, cond}
use mathlib.Core.List.{List}
use native.Mathlib.Omega.{arith}
use Rattle.tables.specs.Room.{dated, group_room}

least_by : (b : Bool) → 1024 ≤ cond b 2048 1024
least_by true = omega arith
least_by false = omega arith

most-by : (b : Bool) → cond b 2048 1024 ≤ 2048
most-by true = omega arith
most-by false = omega arith

pub room-least : (s : List ℕ) → 1024 ≤ group_room s
room-least s = least_by (dated s)

pub room_most : (s : List ℕ) → group_room s ≤ 2048
room_most s = most-by (dated s)

-- a table with the room has 1,024 rows, and has it still where its length was kept
pub room-rows : (s : List ℕ) {n : ℕ} → group_room s * 126 ≤ n → 129024 ≤ n
room-rows s l = omega (arith, room-least s)

pub room-windows : (s : List ℕ) {n : ℕ} → dated s ≡ true → group_room s * 126 ≤ n → 258048 ≤ n
room-windows s e l = let k : group_room s ≡ 2048 = rw e refl in omega arith

pub room-kept : (s : List ℕ) {n m : ℕ} → m ≡ n → group_room s * 126 ≤ n → group_room s * 126 ≤ m
room-kept s e l = omega arith

-- the table that an operation chooses by the first byte, where b is what it was told, has the room
pub room-dated : (s : List ℕ) {b : Bool} {n : ℕ} → b ≡ dated s → b ≡ true → 2048 * 126 ≡ n → group_room s * 126 ≤ n
room-dated s e t l = rw (← e, t) (omega arith)

pub room-plain : (s : List ℕ) {b : Bool} {n : ℕ} → b ≡ dated s → b ≡ false → 1024 * 126 ≡ n → group_room s * 126 ≤ n
room-plain s e t l = rw (← e, t) (omega arith)
