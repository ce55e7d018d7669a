-- Kind 7's list: an OR for each group, whose output is counted: laws.
use Prim.Native.Nat.{ℕ, ◌+◌}
use mathlib.Core.Path.{◌≡◌, refl}
use mathlib.Core.List.{List, [], ◌∷◌, map}
use native.Mathlib.Omega.{arith}
use native.Mathlib.Nat.{add-zero}
use lib.ListN.{length}
use Rattle.scope.specs.declared.Layout.{Layout}
use Rattle.scope.specs.Cnf.{or}
use Rattle.scope.specs.Kinds.{Atom, any_of, uses_at}
use Rattle.literals.proofs.laws.Variables.{x_at}
use Rattle.literals.specs.Outputs.{every}
use Rattle.literals.specs.Numbered.{num_at}
use Rattle.literals.proofs.laws.Entries.{Adds, adds_none, adds_more, atoms_literals}
use Rattle.literals.proofs.laws.Laws.{x_literal}
use Rattle.node_lists.specs.Cluster.{xs_of}

-- the literals of X at some times
pub uses-literals : (T : ℕ) (L : Layout) (r : ℕ) (ts : List ℕ) → map (num_at T L) (uses_at r ts) ≡ map (x_at T L r) ts
uses-literals T L r [] = refl
uses-literals T L r (t ∷ ts) = rw (← (x_literal T L r t), ← (uses-literals T L r ts))

module _ {num : Atom → ℕ} (f : ℕ → List Atom) (h : ℕ → List ℕ) (e : (g : ℕ) → map num (f g) ≡ h g) where
  adds_any : (gs : List ℕ) (v k : ℕ) → Adds num (map (λ g. any_of (f g)) gs) v k (map or (map h gs)) (every 1 (v + k) (length gs))
  unfolding every
  adds_any [] v k = adds_none num v k
  adds_any (g ∷ gs) v k =
      let s : v + k + 1 ≡ v + (k + 1) = omega arith in
      rw (← (e g), s, ← (atoms_literals num v (f g))) (adds_more num (any_of (f g)) (adds_any gs v (k + 1)))

pub cluster-adds : (T : ℕ) (L : Layout) (group : ℕ → List ℕ) (r : ℕ) (hs : List ℕ) (v : ℕ)
    → Adds (num_at T L) (map (λ g. any_of (uses_at r (group g))) hs) v 0 (map or (xs_of T L.uses group r hs)) (every 1 v (length hs))
cluster-adds T L group r hs v =
    rw (add-zero v) at (adds_any (λ g. uses_at r (group g)) (λ g. map (x_at T L r) (group g)) (λ g. uses-literals T L r (group g)) hs v 0)
