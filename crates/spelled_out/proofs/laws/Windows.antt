-- The times that a window shows are among those of its day.
use Prim.Native.Nat.{ℕ, suc, ◌+◌, ◌≤◌, ◌<◌}
use mathlib.Core.Path.{◌≡◌, refl}
use mathlib.Core.Bool.{Bool, true, false, cond, ◌&&◌, ◌||◌}
use mathlib.Core.List.{List, [], ◌∷◌}
use native.Mathlib.Omega.{arith}
use lib.Dec.{leb, eqb}
use lib.ListN.{length}
use borrow.Author.Tests.{eqb-true}
use Rattle.laws.specs.Booleans.{never_true}
use Rattle.scope.specs.Kinds.{member}
use Rattle.scope.specs.Calendar.{Period, shown}

-- whether a period lies within a window
abbrev pub within : ℕ → ℕ → Period → Bool
within from to p = leb from p.start && leb p.end to

-- one of the n times after t
abbrev pub Among : ℕ → ℕ → ℕ → Type 0
Among t n x = (t < x) × (x ≤ t + n)

-- a time that is shown is one of the day's
pub only-shown : (from to t : ℕ) (ps : List Period) (x : ℕ) → member x (shown from to t ps) ≡ true → Among t (length ps) x
unfolding member shown
only-shown from to t [] x e = never_true e
only-shown from to t (p ∷ ps) x e = by (within from to p) (only-shown from to (suc t) ps x) e
  where
    rest : List ℕ
    rest = shown from to (suc t) ps

    later : Among (suc t) (length ps) x → Among t (length (p ∷ ps)) x
    later h = omega arith

    first : (b : Bool) → eqb x (suc t) ≡ b → (member x rest ≡ true → Among (suc t) (length ps) x) → (b || member x rest) ≡ true
        → Among t (length (p ∷ ps)) x
    first true d ih e = omega (arith, eqb-true x (suc t) d)
    first false d ih e = later (ih e)

    by : (b : Bool) → (member x rest ≡ true → Among (suc t) (length ps) x) → member x (cond b (suc t ∷ rest) rest) ≡ true
        → Among t (length (p ∷ ps)) x
    by true ih e = first (eqb x (suc t)) refl ih e
    by false ih e = later (ih e)
