-- The bounds of a kind's count as written: laws.
use Prim.Native.Nat.{ℕ}
use mathlib.Core.Path.{◌≡◌, refl}
use mathlib.Core.List.{List}
use Rattle.scope.specs.Kinds.{Kind, clash, unavailable, preferred, split, spread, busy, cluster, idle, distribute, lengths, precedence, counted_of}
use Rattle.constraint.specs.Bounds.{low_of, high_of, free_of}

-- they are those of the kind's row in the table
pub record BoundsRight (T : ℕ) (dur : ℕ → ℕ) (us group : ℕ → List ℕ) (k : Kind) : Type 0 where
  pub lo : (counted_of T dur us group k).lo ≡ low_of k
  pub hi : (counted_of T dur us group k).hi ≡ high_of k
  pub free : (counted_of T dur us group k).zero_free ≡ free_of k

pub bounds-right : (T : ℕ) (dur : ℕ → ℕ) (us group : ℕ → List ℕ) (k : Kind) → BoundsRight T dur us group k
unfolding counted_of
bounds-right T dur us group (clash r) = record { lo = refl; hi = refl; free = refl }
bounds-right T dur us group (unavailable r g) = record { lo = refl; hi = refl; free = refl }
bounds-right T dur us group (preferred e g) = record { lo = refl; hi = refl; free = refl }
bounds-right T dur us group (split e lo hi) = record { lo = refl; hi = refl; free = refl }
bounds-right T dur us group (spread vs g lo hi) = record { lo = refl; hi = refl; free = refl }
bounds-right T dur us group (busy r g lo hi) = record { lo = refl; hi = refl; free = refl }
bounds-right T dur us group (cluster r hs lo hi) = record { lo = refl; hi = refl; free = refl }
bounds-right T dur us group (idle r hs lo hi) = record { lo = refl; hi = refl; free = refl }
bounds-right T dur us group (distribute e n lo hi) = record { lo = refl; hi = refl; free = refl }
bounds-right T dur us group (lengths e a b) = record { lo = refl; hi = refl; free = refl }
bounds-right T dur us group (precedence a b lo hi) = record { lo = refl; hi = refl; free = refl }
