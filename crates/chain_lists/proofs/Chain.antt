-- The gates of a chain of ORs, one by one.
use Prim.Native.Nat.{ℕ, zero, suc, ◌+◌, ◌≤◌}
use mathlib.Core.Path.{◌≡◌, refl}
use mathlib.Core.List.{List, [], ◌∷◌}
use mathlib.Core.Bool.{Bool, true, false}
use native.Mathlib.Omega.{arith}
use native.Mathlib.Numerals.{add-one}
use Rattle.scope.specs.Cnf.{pos, or}
use Rattle.chain_lists.specs.Gap.{next_to, stepping, more_gates, chain_gates}

-- the first of those that are left, and no more
pub more-step : (up : Bool) (x p n m : ℕ) → n ≡ m + 1
    → more_gates p (stepping up x n) ≡ or (pos x ∷ pos p ∷ []) ∷ more_gates (p + 1) (stepping up (next_to up x) m)
unfolding more_gates stepping
more-step up x p n m e = rw (e, add-one m, add-one p)

pub more-end : (up : Bool) (x p n : ℕ) → n ≡ 0 → more_gates p (stepping up x n) ≡ []
unfolding more_gates stepping
more-end up x p n e = rw e

pub next-most : (up : Bool) (x y : ℕ) → y ≡ next_to up x → y ≤ x + 1
next-most true x y e = omega arith
next-most false x y e = omega arith

-- a chain of none, and one that begins
pub chain-none : (n : ℕ) (first more : List ℕ) (o : ℕ) → n ≡ 0 → chain_gates n first more o ≡ []
unfolding chain_gates
chain-none n first more o e = rw e

pub chain-begins : (n : ℕ) (first more : List ℕ) (o : ℕ) → (n ≡ 0 → ⊥) → chain_gates n first more o ≡ or first ∷ more_gates o more
unfolding chain_gates
chain-begins zero first more o h = absurd (h refl)
chain-begins (suc n) first more o h = refl
