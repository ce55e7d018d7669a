-- The bytes of a number below 16,384 read back as it.
use Prim.Native.Nat.{ℕ, ◌+◌, ◌*◌, ◌/◌, ◌%◌, ◌<◌}
use mathlib.Core.Path.{◌≡◌, refl}
use mathlib.Core.Bool.{Bool, true, false, cond}
use mathlib.Core.List.{List, [], ◌∷◌, ◌++◌}
use native.Mathlib.Omega.{arith}
use lib.Dec.{ltb}
use lib.ListN.{length}
use borrow.Author.Tests.{ltb-false, lt-ltb, le-ltb, ne_eqb}
use Rattle.scope.specs.Number.{whole, group, front}
use Rattle.scope.specs.SpelledOut.{spelt}

-- one byte below 128, else two
pub front-spelt : (v : ℕ) (q : List ℕ) → v < 16384 → front (spelt v ++ q) ≡ whole v (length (spelt v))
unfolding spelt front group
front-spelt v q h = by (ltb v 128) refl
  where
    by : (t : Bool) → ltb v 128 ≡ t
        → front (cond t (v ∷ []) ((128 + v % 128) ∷ (v / 128) ∷ []) ++ q) ≡ whole v (length (cond t (v ∷ []) ((128 + v % 128) ∷ (v / 128) ∷ [])))
    by true t = rw t
    by false t =
        let big = ltb-false v 128 t in
        let back : (128 + v % 128) % 128 + 128 * (v / 128) ≡ v = omega arith in
        rw (le-ltb (128 + v % 128) 128 (omega arith), lt-ltb (v / 128) 128 (omega arith), ne_eqb (v / 128) 0 (λ e. omega arith), back)
