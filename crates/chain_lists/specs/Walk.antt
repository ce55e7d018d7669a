-- One time of kind 3's walk: what it needs, and what it leaves.
use Rattle.std.specs.Prelude.{ℕ, ◌+◌, ◌*◌, ◌≤◌, ◌<◌, ◌≡◌, List, ◌++◌, length, take}
use Rattle.scope.specs.Kinds.{Reach}
use Rattle.literals.specs.Words.{Holds}
use Rattle.literals.specs.NodeWords.{nodes_words}
use Rattle.chain_lists.specs.declared.carried.Walk.{Walk}
use Rattle.chain_lists.specs.Reach.{reaches_gates, last_variable}

-- there is room for its nodes, and their variables are small
pub record Room (w : Walk) (y s t : ℕ) (out : List ℕ) : Type 0 where
  pub words : w.at + 12 ≤ length out
  pub takes : y + t < 1073741824
  pub starts : s + t < 1073741824
  pub last : w.last < 1073741824
  pub next : w.next + 2 < 1073741824
  pub members : w.members ≤ 125

-- the nodes of some times are stored, and after them so many times can be reached
pub record Went (y s later : ℕ) (xs : List Reach) (w : Walk) (out : List ℕ) (r : Walk) (stored : List ℕ) : Type 0 where
  pub holds : Holds stored r.at (take w.at out ++ nodes_words w.next (reaches_gates y s xs w.next w.last))
  pub words : r.at ≡ w.at + 4 * length (reaches_gates y s xs w.next w.last)
  pub near : r.near ≡ later
  pub next : r.next ≡ w.next + length (reaches_gates y s xs w.next w.last)
  pub last : r.last ≡ last_variable s xs w.next w.last
  pub members : r.members ≡ w.members + length xs
