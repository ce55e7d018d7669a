-- Literals and variables that can be written as words: laws.
use mathlib.Core.List.{List, [], ◌∷◌}
use Prim.Native.Nat.{ℕ, suc, ◌≤◌, ◌<◌}
use native.Mathlib.Omega.{arith}
use lib.ListN.{length, take}
use lib.Seq.{length-take-le, get_or-take}
use Rattle.scope.specs.Cnf.{opp}
use Rattle.sink.specs.Block.{Small}
use Rattle.row_words.specs.Literals.{Literal, LiteralsTo, Literals}

-- the opposite of one is one
opposite-some : (l : ℕ) → 2 ≤ l → 2 ≤ opp l
opposite-some l h = omega arith

opposite-small : (l : ℕ) → l < 2147483648 → opp l < 2147483648
opposite-small l h = omega arith

pub literal-opposite : (l : ℕ) → Literal l → Literal (opp l)
literal-opposite l h = record { some = opposite-some l h.some; small = opposite-small l h.small }

-- such a variable
pub record Variable (v : ℕ) : Type 0 where
  pub some : 1 ≤ v
  pub small : v < 1073741824

-- they can be marked
pub small_all : (xs : List ℕ) → Literals xs → Small xs
small_all [] h = tt
small_all (x ∷ xs) h = ((h 0 (omega arith)).small, small_all xs (λ i g. h (suc i) (omega arith)))

-- the first n by themselves
pub literals-take : (n : ℕ) (xs : List ℕ) → n ≤ length xs → LiteralsTo n xs → Literals (take n xs)
literals-take n xs h f i g =
    let k : i < n = omega (arith, length-take-le n xs h) in rw (get_or-take n xs i 0 k) (f i k)
