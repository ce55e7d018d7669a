-- The tail for a bound B: its clauses hold exactly where the soft units that are false weigh at most B.
use mathlib.Core.Path.{◌≡◌, refl, ap, ◌∙◌}
use mathlib.Core.Bool.{Bool, true, false, not, cond}
use mathlib.Core.Logic.{◌↔◌}
use mathlib.Core.List.{List, [], ◌∷◌}
use Prim.Native.Nat.{ℕ, suc, ◌+◌, ◌-◌, ◌≤◌}
use native.Mathlib.Nat.{suc-add, add-suc}
use native.Mathlib.Omega.{arith}
use lib.Dec.{leb}
use borrow.Author.Tests.{leb-true, leb-false}
use Rattle.scope.specs.Cnf.{Assignment, opp, lit, Item, gate, hard, soft, gates, soft_units, falsified}
use Rattle.scope.specs.Formula.{no_row, counter, last_row, negated, tail}
use Rattle.theory.proofs.laws.Gates.{lit_opp}
use Rattle.theory.proofs.laws.Circuit.{Holds, Holds-gates, Keeps}
use Rattle.theory.proofs.laws.Order.{opp-proper, Ordered, Ordered-gates, proper-up}
use Rattle.theory.proofs.laws.Counter.{total, counter_counts, length-counter}
use Rattle.theory.proofs.laws.Costs.{Scores-gates, Costs-hard}
use Rattle.theory.proofs.laws.RuleOrder.{Literals, counter-order, last_row-proper}

-- the negated soft units that are true weigh what the soft units that are false weigh
pub total-negated : (ν : Assignment) (us : List (ℕ × ℕ)) → total ν (negated us) ≡ falsified ν us
unfolding total falsified
total-negated ν [] = refl
total-negated ν (u ∷ us) = rw (lit_opp, total-negated ν us) (go (lit ν u.1))
  where
    go : (b : Bool) → cond (not b) u.0 0 + falsified ν us ≡ cond b 0 u.0 + falsified ν us
    go true = refl
    go false = refl

-- the last unit is true exactly where the sum is within the bound
pub tail-keeps : (ν : Assignment) → ν 0 ≡ false → (B : ℕ) (xs : List (ℕ × ℕ)) (v : ℕ) → Holds ν v (tail B xs v)
    → Keeps ν (tail B xs v) ↔ (total ν xs ≤ B)
unfolding tail total
tail-keeps ν z B [] v h = (λ _. omega arith, λ _. tt)
tail-keeps ν z B (x ∷ xs) v h =
    let k = counter no_row (x ∷ xs) (B + 1) v in
    let q = last_row no_row (x ∷ xs) (B + 1) v in
    let end = hard (opp (q (B + 1)) ∷ []) ∷ [] in
    let m = counter_counts ν z (x ∷ xs) (B + 1) v (Holds-gates ν v k end h).0 in
    let t = total ν (x ∷ xs) in
    let u =
    Costs-hard ν (opp (q (B + 1))) (leb (B + 1) t) (t - B) (lit_opp ν (q (B + 1)) ∙ ap not (m (B + 1) (omega arith)))
    (λ e. omega (arith, leb-true (B + 1) t e)) (λ e. omega (arith, leb-false (B + 1) t e)) in
    let s = Scores-gates ν k end u in
    (λ p. omega (arith, s.keeps.0 p refl), λ p. s.keeps.1 (λ _. omega arith))

-- it reads earlier variables only, where the soft units do
pub tail-order : (B : ℕ) (xs : List (ℕ × ℕ)) (v : ℕ) → 1 ≤ v → Literals v xs → Ordered v (tail B xs v)
unfolding tail
tail-order B [] v a b = tt
tail-order B (x ∷ xs) v a b =
    let q = last_row no_row (x ∷ xs) (B + 1) v in
    Ordered-gates v (counter no_row (x ∷ xs) (B + 1) v) (hard (opp (q (B + 1)) ∷ []) ∷ []) (counter-order (x ∷ xs) (B + 1) v a b)
    (rw (length-counter no_row (x ∷ xs))
    ((opp-proper _ (q (B + 1)) (last_row-proper (x ∷ xs) (B + 1) v a (omega arith) (B + 1) (omega arith) (omega arith)), tt), tt))

-- the literals of the soft units are of variables before the tail's
pub soft-literals : (n : ℕ) (is : List Item) → Ordered n is → Literals (n + gates is) (negated (soft_units is))
unfolding soft_units
soft-literals n [] h = tt
soft-literals n (gate g ∷ is) h = rw (suc-add, ← add-suc) at (soft-literals (suc n) is h.1)
soft-literals n (hard c ∷ is) h = soft-literals n is h.1
soft-literals n (soft w l ∷ is) h = (proper-up n _ (opp l) (omega arith) (opp-proper n l h.0), soft-literals n is h.1)
