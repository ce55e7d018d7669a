-- The literals of gates' outputs that a list counts: laws.
use Prim.Native.Nat.{ℕ, zero, suc, ◌+◌, ◌*◌}
use mathlib.Core.Path.{◌≡◌, ap}
use mathlib.Core.List.{List, ◌∷◌, ◌++◌}
use native.Mathlib.Omega.{arith}
use Rattle.scope.specs.Cnf.{pos}
use Rattle.literals.specs.Outputs.{every}

-- of n and then m variables
pub every-both : (step v n m : ℕ) → every step v (n + m) ≡ every step v n ++ every step (v + step * n) m
unfolding every
every-both step v zero m =
    let e : v + step * 0 ≡ v = omega arith in
    let k : 0 + m ≡ m = omega arith in
    rw (e, k)
every-both step v (suc n) m =
    let e : v + step + step * n ≡ v + step * suc n = omega arith in
    let k : suc n + m ≡ suc (n + m) = omega arith in
    rw (k, ← e) (ap (λ (l : List ℕ). pos v ∷ l) (every-both step (v + step) n m))
