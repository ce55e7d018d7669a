-- A row's cells as text.
use mathlib.Core.Path.{◌≡◌}
use Prim.Native.Nat.{ℕ, ◌+◌, ◌-◌, ◌/◌, ◌≤◌}
use native.Mathlib.Omega.{arith}
use Rattle.scope.specs.Cnf.{opp, gate_clauses}
use Rattle.sink.specs.Run.{Ran, Out, put}
use Rattle.sink.specs.Meaning.{hard_text}
use Rattle.row_words.specs.Cells.{cell_at, full_clauses, low_clauses}
use Rattle.row_words.proofs.laws.Cells.{full-cell, low-cell}

-- a literal's number is its opposite's
pub half-opposite : (x : ℕ) {r : ℕ} → r ≡ opp x → r / 2 ≡ x / 2
half-opposite x e = rw e (omega arith)

-- a cell's lines by the values of what is spelt
module _ (top x prev first : ℕ) {o o' : Out} {t a c : ℕ} (lx : 2 ≤ x) (lp : 1 ≤ prev) (lf : 1 ≤ first) where
  pub low_ran : Ran put (hard_text t (low_clauses x a c)) o o' → t ≡ top → a ≡ prev + 0 → c ≡ first + 0
      → Ran put (hard_text top (gate_clauses (cell_at x 1 prev 0) (first + 0))) o o'
  low_ran r et ea ec = rw (low-cell x prev 0 (first + 0) 1 lx lp (omega arith) (omega arith)) (rw (et, ea, ec) at r)

  pub full_ran : {b : ℕ} (j : ℕ) → 1 ≤ j → Ran put (hard_text t (full_clauses x a b c)) o o' → t ≡ top → a ≡ prev + j → b ≡ prev + (j - 1) → c ≡ first + j
      → Ran put (hard_text top (gate_clauses (cell_at x 1 prev j) (first + j))) o o'
  full_ran j h r et ea eb ec = rw (full-cell x prev j (first + j) 1 lx lp (omega arith) h) (rw (et, ea, eb, ec) at r)
