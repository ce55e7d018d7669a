-- When an operation answers: exactly where no check on the way refuses.
use mathlib.Core.Path.{◌≡◌, refl}
use mathlib.Core.Bool.{Bool, true, false, and-eq-true_iff}
use mathlib.Core.Logic.Iff
use mathlib.Core.Logic.{◌↔◌}
use mathlib.Core.List.{List, [], ◌∷◌}
use mathlib.Core.Option.{Option, none, some}
use Prim.Native.Nat.{ℕ, suc, ◌≤◌}
use native.Mathlib.Omega.{arith}
use lib.Dec.{leb, eqb}
use lib.ListN.{length}
use borrow.Author.Tests.{leb-true, le-leb, eqb-true, eq-eqb}
use Rattle.laws.specs.Booleans.{some≢none, cond-none}
use Rattle.laws.specs.Lists.{All}
use Rattle.scope.specs.Parsed.{Answer, answered, refusal, provided}
use Rattle.scope.specs.Cnf.{Assignment, clause, clauses}
use Rattle.scope.specs.Score.{first_above, unless_found, of_bytes}
use Rattle.scope.specs.Operations.{lowest_false}

-- equal answers have equal values
pub answered-value : {A : Type 0} {x y : A} → answered x ≡ answered y → x ≡ y
answered-value e = cc

module _ {A : Type 0} {x : A} where
  refusal≢answered : {k v : ℕ} → refusal k v ≡ answered x → ⊥
  refusal≢answered e = let z : ◌≡◌ {A = ℕ} 0 1 = cc in omega arith

  -- a check that refuses unless a test holds; one that refuses what it finds
  pub provided_answers : (test : Bool) (k v : ℕ) (a : Answer A)
      → (provided test k v a ≡ answered x) ↔ ((test ≡ true) × (a ≡ answered x))
  provided_answers true k v a = (λ e. (refl, e), λ h. h.1)
  provided_answers false k v a =
      (λ e. absurd (refusal≢answered e), λ h. let z : ◌≡◌ {A = ℕ} 0 1 = cc h.0 in let f : ⊥ = omega arith in absurd f)

  pub unless_found-answers : (k : ℕ) (found : Option ℕ) (a : Answer A)
      → (unless_found k found a ≡ answered x) ↔ ((found ≡ none) × (a ≡ answered x))
  unless_found-answers k none a = (λ e. (refl, e), λ h. h.1)
  unless_found-answers k (some v) a = (λ e. absurd (refusal≢answered e), λ h. absurd (some≢none h.0))

-- no byte is above 1
pub first_above-none : (k : ℕ) (bs : List ℕ) → (first_above k bs ≡ none) ↔ All (λ b. b ≤ 1) bs
unfolding first_above
first_above-none k [] = (λ _. tt, λ _. refl)
first_above-none k (b ∷ bs) =
    let c = cond-none (leb b 1) k (first_above (suc k) bs) in
    let ih = first_above-none (suc k) bs in
    (λ n. (leb-true b 1 (c.0 n).0, ih.0 (c.0 n).1), λ h. c.1 (le-leb b 1 h.0, ih.1 h.1))

-- no clause is false
pub lowest_false-none : (ν : Assignment) (n : ℕ) (cs : List (List ℕ)) → (lowest_false ν n cs ≡ none) ↔ (clauses ν cs ≡ true)
unfolding lowest_false clauses
lowest_false-none ν n [] = (λ _. refl, λ _. refl)
lowest_false-none ν n (c ∷ cs) =
    Iff.trans (cond-none (clause ν c) n (lowest_false ν (suc n) cs))
    (Iff.trans (Iff.and Iff.rfl (lowest_false-none ν (suc n) cs)) (Iff.symm (and-eq-true_iff (clause ν c) (clauses ν cs))))

-- so many bytes, each 0 or 1
pub of_bytes-answers : {A : Type 0} {x : A} (n : ℕ) (bs : List ℕ) (a : Answer A)
    → (of_bytes n bs a ≡ answered x) ↔ ((length bs ≡ n) × All (λ b. b ≤ 1) bs × (a ≡ answered x))
of_bytes-answers n bs a =
    let p = provided_answers (eqb (length bs) n) 10 n (unless_found 11 (first_above 0 bs) a) in
    let u = unless_found-answers 11 (first_above 0 bs) a in
    let f = first_above-none 0 bs in (
      λ e. let h = p.0 e in let g = u.0 h.1 in (eqb-true (length bs) n h.0, f.0 g.0, g.1),
      λ h. p.1 (eq-eqb (length bs) n h.0, u.1 (f.1 h.1, h.2)),
    )
