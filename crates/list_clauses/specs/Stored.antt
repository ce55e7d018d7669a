-- A list in a store of words: its nodes, as they are read one after another, and its members.
use Rattle.std.specs.Prelude.{List, [], ◌∷◌, ◌++◌, ℕ, zero, suc, ◌+◌, ◌-◌, ◌≤◌, length, take, drop}
use Rattle.counters.specs.Literals.{Literals}
use Rattle.node_clauses.specs.LongClauses.{LongClause, node_clauses}
use Rattle.constraint.specs.declared.kinds.Bounds.{Bounds}
use Rattle.items.specs.Counted.{counted}
use Rattle.items.specs.Written.{Room}

-- the clauses of the first n nodes
unfoldable pub store_clauses : ℕ → List ℕ → List (List ℕ)
store_clauses zero ws = []
store_clauses (suc n) [] = []
store_clauses (suc n) (k ∷ ws) = node_clauses (take (k + 1) ws) ++ store_clauses n (drop (k + 1) ws)

-- n nodes can be read
abbrev pub StoreNodes : ℕ → List ℕ → Type 0
StoreNodes zero ws = Unit
StoreNodes (suc n) [] = ⊥
StoreNodes (suc n) (k ∷ ws) = (k + 1 ≤ length ws) × LongClause (take (k + 1) ws) × StoreNodes n (drop (k + 1) ws)

-- the words from a place up to an end
abbrev pub members : (store : List ℕ) (at end : ℕ) → List ℕ
members store at end = take (end - at) (drop at store)

-- a list that can be written with its weight and bounds: its nodes can be read, and its members are a few literals
pub record ListStored (store : List ℕ) (nodes at end weight : ℕ) (b : Bounds) (v : ℕ) : Type 0 where
  pub read : StoreNodes nodes store
  pub start : at ≤ end
  pub within : end ≤ length store
  pub literals : Literals (members store at end)
  pub few : length (members store at end) ≤ 255
  pub reached : b.lo ≤ length (members store at end)
  pub room : Room (v + nodes) (counted weight b (members store at end) (v + nodes))
