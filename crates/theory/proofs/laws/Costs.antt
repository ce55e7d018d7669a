-- What a part of a formula is worth: where its gates hold, its other hard clauses hold exactly where a fact holds, and the
-- soft units that are false weigh a cost.
use mathlib.Core.Path.{◌≡◌, refl, sym, ap, ◌∙◌}
use mathlib.Core.Bool.{Bool, true, false, not, cond, or-false, true≢false}
use mathlib.Core.Logic.Iff
use mathlib.Core.Logic.{◌↔◌}
use mathlib.Core.List.{List, [], ◌∷◌, ◌++◌, map, flat_map}
use Prim.Native.Nat.{ℕ, zero, suc, ◌+◌, ◌*◌, ◌≤◌}
use native.Mathlib.Nat.{zero-add, add_assoc, mul-add, mul-zero, zero-mul}
use native.Mathlib.Omega.{arith}
use Rattle.laws.specs.Lists.{All}
use Rattle.scope.specs.Cnf.{Assignment, lit, clause, Gate, Item, gate, hard, soft, soft_units, falsified}
use Rattle.scope.specs.Score.{trues}
use Rattle.scope.specs.Formula.{unit}
use Rattle.theory.proofs.laws.Circuit.{Keeps, Keeps-append}

pub record Scores (ν : Assignment) (is : List Item) (fact : Type 0) (cost : ℕ) : Type 0 where
  pub keeps : Keeps ν is ↔ fact
  pub costs : falsified ν (soft_units is) ≡ cost

-- a part of the weight w, hard where w is 0, that deviates by d
abbrev pub Costs : Assignment → ℕ → List Item → ℕ → Type 0
Costs ν w is d = Scores ν is (w ≡ 0 → d ≡ 0) (w * d)

-- the soft units of items one after the other
pub soft_units-append : (is js : List Item) → soft_units (is ++ js) ≡ soft_units is ++ soft_units js
unfolding soft_units
soft_units-append [] js = refl
soft_units-append (gate g ∷ is) js = soft_units-append is js
soft_units-append (hard c ∷ is) js = soft_units-append is js
soft_units-append (soft w l ∷ is) js = ap (λ us. (w, l) ∷ us) (soft_units-append is js)

module _ (ν : Assignment) where
  falsified_append : (us vs : List (ℕ × ℕ)) → falsified ν (us ++ vs) ≡ falsified ν us + falsified ν vs
  unfolding falsified
  falsified_append [] vs = sym (zero-add (falsified ν vs))
  falsified_append (u ∷ us) vs = rw (falsified_append us vs, add_assoc)

  -- the same part by an equivalent fact; no items; parts one after the other
  pub Scores-same : {is : List Item} {P Q : Type 0} {a : ℕ} → (P ↔ Q) → Scores ν is P a → Scores ν is Q a
  Scores-same h s = record { keeps = Iff.trans s.keeps h; costs = s.costs }

  pub Scores-none : Scores ν [] (Unit {0}) 0
  unfolding soft_units falsified
  Scores-none = record { keeps = (λ _. tt, λ _. tt); costs = refl }

  pub Scores-append : {P Q : Type 0} {a b : ℕ} (is js : List Item) → Scores ν is P a → Scores ν js Q b
      → Scores ν (is ++ js) (P × Q) (a + b)
  Scores-append is js s t =
      let k = Keeps-append ν is js in
      record {
        keeps = (λ h. (s.keeps.0 (k.0 h).0, t.keeps.0 (k.0 h).1), λ h. k.1 (s.keeps.1 h.0, t.keeps.1 h.1));
        costs = rw (soft_units-append, falsified_append, s.costs, t.costs);
      }

  -- gates before a part
  pub Scores-gates : {P : Type 0} {a : ℕ} (gs : List Gate) (is : List Item) → Scores ν is P a → Scores ν (map gate gs ++ is) P a
  unfolding soft_units
  Scores-gates [] is s = s
  Scores-gates (g ∷ gs) is s = let t = Scores-gates gs is s in record { keeps = t.keeps; costs = t.costs }

  -- parts without soft units, one for each of some things
  pub Scores-flatMap : {A : Type 0} (P : A → Type 0) (f : A → List Item) (xs : List A) → All (λ x. Scores ν (f x) (P x) 0) xs
      → Scores ν (flat_map f xs) (All P xs) 0
  unfolding flat_map
  Scores-flatMap P f [] h = Scores-none
  Scores-flatMap P f (x ∷ xs) h = Scores-append (f x) (flat_map f xs) h.0 (Scores-flatMap P f xs h.1)

  -- no items; parts of one weight one after the other
  pub Costs-none : (w : ℕ) → Costs ν w [] 0
  unfolding soft_units falsified
  Costs-none w = record { keeps = (λ _ _. refl, λ _. tt); costs = sym (mul-zero w) }

  pub Costs-append : (w a b : ℕ) (is js : List Item) → Costs ν w is a → Costs ν w js b → Costs ν w (is ++ js) (a + b)
  Costs-append w a b is js s t =
      let both : ((w ≡ 0 → a ≡ 0) × (w ≡ 0 → b ≡ 0)) ↔ (w ≡ 0 → a + b ≡ 0) =
      (λ p e. omega (arith, p.0 e, p.1 e), λ p. (λ e. omega (arith, p e), λ e. omega (arith, p e))) in
      rw mul-add (Scores-same both (Scores-append is js s t))

  -- a unit clause is its literal
  pub clause_unit : (l : ℕ) → clause ν (l ∷ []) ≡ lit ν l
  unfolding clause
  clause_unit l = or-false (lit ν l)

  -- a hard unit that is false exactly where something deviates
  pub Costs-hard : (l : ℕ) (b : Bool) (d : ℕ) → lit ν l ≡ not b → (b ≡ true → 1 ≤ d) → (b ≡ false → d ≡ 0)
      → Costs ν 0 (hard (l ∷ []) ∷ []) d
  unfolding soft_units falsified
  Costs-hard l true d e f g =
      record {
        keeps = (
          λ k. absurd (true≢false (sym k.0 ∙ clause_unit l ∙ e)),
          λ p. let x : ⊥ = omega (arith, p refl, f refl) in absurd x,
        );
        costs = sym (zero-mul d);
      }
  Costs-hard l false d e f g = record { keeps = (λ k _. g refl, λ p. (clause_unit l ∙ e, tt)); costs = sym (zero-mul d) }

  -- a unit deviates by 1 where its literal is false
  pub Costs-unit : (w l : ℕ) (b : Bool) → lit ν l ≡ not b → Costs ν w (unit w l ∷ []) (cond b 1 0)
  unfolding soft_units falsified
  Costs-unit zero l true e = Costs-hard l true 1 e (λ _. omega arith) (λ x. absurd (true≢false x))
  Costs-unit zero l false e = Costs-hard l false 0 e (λ x. absurd (true≢false (sym x))) (λ _. refl)
  Costs-unit (suc w) l true e =
      record { keeps = (λ k d. let x : ⊥ = omega arith in absurd x, λ p. tt); costs = rw e (omega arith) }
  Costs-unit (suc w) l false e = record { keeps = (λ k d. refl, λ p. tt); costs = rw e (omega arith) }

  -- units, one for each of some columns
  pub Costs-units : (w : ℕ) (f : ℕ → ℕ) (b : ℕ → Bool) (xs : List ℕ) → All (λ i. lit ν (f i) ≡ not (b i)) xs
      → Costs ν w (map (λ i. unit w (f i)) xs) (trues (map b xs))
  unfolding trues
  Costs-units w f b [] h = Costs-none w
  Costs-units w f b (x ∷ xs) h =
      Costs-append w (cond (b x) 1 0) (trues (map b xs)) (unit w (f x) ∷ []) (map (λ i. unit w (f i)) xs)
      (Costs-unit w (f x) (b x) h.0) (Costs-units w f b xs h.1)
