-- How a directory is searched for an id, and what is found: laws.
use mathlib.Core.Path.{◌≡◌}
use Prim.Native.Nat.{ℕ, ◌<◌, ◌≤◌}
use Rattle.directory.specs.declared.Row.{Row}
use Rattle.directory.specs.Rows.{no_row}
use Rattle.directory.proofs.laws.Rows.{Rising}
use Rattle.lookup.specs.declared.Probe.{Probe}

-- what a search of the first n rows for an id finds
pub data Found (R : ℕ → Row) (n id : ℕ) (p : Probe) : Type 0 where
  hit : p.at < n → p.hit ≡ R p.at → p.hit.id ≡ id → Found R n id p
  miss : p.hit ≡ no_row → ((i : ℕ) → i < n → (R i).id ≡ id → ⊥) → Found R n id p

-- a search in a directory of cap rows
pub record Finds (cap : ℕ) (R : ℕ → Row) (n id : ℕ) (p : Probe) : Type 0 where
  pub found : n ≤ cap → Rising R n → Found R n id p
