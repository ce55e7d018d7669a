-- How often each resource is used at each time.
use Rattle.std.specs.Prelude.{ℕ, suc, ◌+◌, ◌*◌, ◌<◌, ◌≤◌, ◌≡◌, cond, List, length, get_or, eqb, ltb}
use Rattle.parsing.specs.Numbers.{Ascending}
use Rattle.tables.specs.Rows.{row_at, RowIn}
use Rattle.tables.specs.Occurrences.{occurrences}
use Rattle.resource_uses.specs.Takers.{takers}

-- the counts u become v: one more for each of n bytes 1 from y on, in the n counts from base on
pub record RowAdded (u b : List ℕ) (base y n : ℕ) (v : List ℕ) : Type 0 where
  pub kept : length v ≡ length u
  pub within : (t : ℕ) → t < n → get_or v (base + t) 0 ≡ get_or u (base + t) 0 + cond (eqb (get_or b (y + t) 0) 1) 1 0
  pub before : (k : ℕ) → k < base → get_or v k 0 ≡ get_or u k 0
  pub after : (k : ℕ) → base + n ≤ k → get_or v k 0 ≡ get_or u k 0

-- the counts u become v: for each byte 1 of T from y on, one more at that time for each of some resources
pub record EventAdded (T : ℕ) (u b : List ℕ) (y : ℕ) (rs v : List ℕ) : Type 0 where
  pub kept : length v ≡ length u
  pub each : (p q : ℕ) → p < 99 → q < T
      → get_or v (p * T + q) 0 ≡ get_or u (p * T + q) 0 + cond (eqb (get_or b (y + q) 0) 1) (occurrences (suc p) rs) 0

-- event e can be added: the counts are those of 99 resources and small, its bytes and its row are there
pub record Addable (T : ℕ) (u rs b : List ℕ) (e : ℕ) : Type 0 where
  pub long : length u ≡ 12375
  pub times : T ≤ 125
  pub taken : e * T + T ≤ length b
  pub row : RowIn rs e
  pub ascending : Ascending 99 0 (row_at rs e)
  pub small : (p q : ℕ) → p < 99 → q < T → get_or u (p * T + q) 0 ≤ 1024

-- u has the counts of the first n events
pub record UsesOf (T : ℕ) (b rs : List ℕ) (n : ℕ) (u : List ℕ) : Type 0 where
  pub each : (p q : ℕ) → p < 99 → q < T → get_or u (p * T + q) 0 ≡ takers T b rs (suc p) (suc q) n

-- the first n events can be counted
pub record Countable (T : ℕ) (u rs b : List ℕ) (n : ℕ) : Type 0 where
  pub long : length u ≡ 12375
  pub times : T ≤ 125
  pub events : n ≤ 1024
  pub taken : n * T ≤ length b
  pub rows : (e : ℕ) → e < n → RowIn rs e
  pub ascending : (e : ℕ) → e < n → Ascending 99 0 (row_at rs e)

-- x has a byte 1 where u has a count above 0, and else 0
pub record Marked (u x : List ℕ) : Type 0 where
  pub each : (k : ℕ) → k < length u → get_or x k 0 ≡ cond (ltb 0 (get_or u k 0)) 1 0
