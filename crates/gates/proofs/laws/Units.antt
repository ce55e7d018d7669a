-- Start clauses and units as lines: laws.
use mathlib.Core.Path.{◌≡◌, refl}
use mathlib.Core.Bool.{true, false}
use mathlib.Core.List.{[], ◌∷◌, map, flat_map}
use Prim.Native.Nat.{ℕ, zero, suc, ◌+◌, ◌-◌, ◌*◌, ◌≤◌, ◌<◌}
use native.Mathlib.Omega.{arith}
use lib.Dec.{eqb}
use borrow.Author.Tests.{ne_eqb}
use Rattle.scope.specs.Kinds.{Y, S}
use Rattle.scope.specs.Instance.{Instance}
use Rattle.scope.specs.Score.{var}
use Rattle.scope.specs.Formula.{unit, start_items}
use Rattle.sink.specs.Lines.{clause_line, soft_line, lines}
use Rattle.sink.specs.Block.{mark, Marks}
use Rattle.sink.proofs.laws.Block.{marks}
use Rattle.gates.specs.Units.{start_clauses, unit_line}

-- they are those of document 01
pub start_lines : (i : Instance) (e t n : ℕ) → 1 ≤ t
    → lines n (start_items i e t) ≡ map clause_line (start_clauses (eqb t 1) (var i (Y e t)) (var i (S e t)))
unfolding lines
start_lines i e zero n h = absurd (omega arith)
start_lines i e (suc zero) n h = refl
start_lines i e (suc (suc t)) n h =
    let y : (e - 1) * i.times + suc (suc t) - 1 ≡ (e - 1) * i.times + suc t = omega arith in
    rw (ne_eqb (suc (suc t)) 1 (λ q. omega arith), y)

-- their words
pub first_block : {y s : ℕ} → y < 1073741824 → s < 1073741824
    → Marks ((2 * y) ∷ (2 * s + 1 + 2147483648) ∷ (2 * y + 1) ∷ (2 * s + 2147483648) ∷ []) (start_clauses true y s)
unfolding mark flat_map
first_block {y} {s} h g = marks (start_clauses true y s) (omega arith)

pub later-block : {y s : ℕ} → y < 1073741824 → s < 1073741824
    → Marks ((2 * y) ∷ (2 * s + 1 + 2147483648) ∷ (2 * (y - 1)) ∷ (2 * y + 1) ∷ (2 * s + 2147483648) ∷ []) (start_clauses false y s)
unfolding mark flat_map
later-block {y} {s} h g = marks (start_clauses false y s) (omega arith)

pub unit_lines : (n w l : ℕ) → lines n (unit w l ∷ []) ≡ unit_line w l ∷ []
unfolding lines
unit_lines n zero l = refl
unit_lines n (suc w) l = refl

pub unit-soft : (w l : ℕ) → (w ≡ 0 → ⊥) → unit_line w l ∷ [] ≡ soft_line w l ∷ []
unit-soft zero l z = absurd (z refl)
unit-soft (suc w) l z = refl
