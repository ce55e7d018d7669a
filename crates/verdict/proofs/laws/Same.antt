-- Two parts, byte by byte.
use Prim.Native.Nat.{ℕ}
use mathlib.Core.Path.{◌≡◌, refl}
use mathlib.Core.List.{List, [], ◌∷◌}
use lib.Dec.{eqb}
use Rattle.std.specs.Cmp.Lexicographic.{pointwise}
use Rattle.scope.specs.Operations.{same_bytes}

-- the definition is what `==` says of two slices
pub bytes-pointwise : (a b : List ℕ) → pointwise eqb a b ≡ same_bytes a b
unfolding same_bytes
bytes-pointwise [] [] = refl
bytes-pointwise [] (y ∷ b) = refl
bytes-pointwise (x ∷ a) [] = refl
bytes-pointwise (x ∷ a) (y ∷ b) = rw (bytes-pointwise a b)
