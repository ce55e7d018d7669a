-- A formula as a circuit: its hard clauses hold exactly where each gate's output has its value and each plain clause is true.
use mathlib.Core.Path.{◌≡◌, refl, sym, ap, ◌∙◌}
use mathlib.Core.Bool.{true, false, and-eq-true_iff}
use mathlib.Core.Logic.{◌↔◌}
use mathlib.Core.List.{List, [], ◌∷◌, ◌++◌, map, flat_map, append_assoc}
use Prim.Native.Nat.{ℕ, zero, suc, ◌+◌, ◌<◌}
use native.Mathlib.Nat.{add-zero, zero-add, suc-add, add-suc}
use native.Mathlib.Omega.{arith}
use lib.ListN.{length, get_or}
use Rattle.scope.specs.Cnf.{Assignment, clause, clauses, Gate, gate_clauses, Item, gate, hard, soft, hard_clauses, gates}
use Rattle.theory.proofs.laws.Outputs.{value}
use Rattle.theory.proofs.laws.Gates.{clauses_append, gate_holds}

-- each gate's output has the gate's value, where n is the variable of the first gate's output
abbrev pub Holds : Assignment → ℕ → List Item → Type 0
Holds ν n [] = Unit {0}
Holds ν n (gate g ∷ is) = (ν n ≡ value ν g) × Holds ν (suc n) is
Holds ν n (hard c ∷ is) = Holds ν n is
Holds ν n (soft w l ∷ is) = Holds ν n is

-- each hard clause beside the gates' is true
abbrev pub Keeps : Assignment → List Item → Type 0
Keeps ν [] = Unit {0}
Keeps ν (gate g ∷ is) = Keeps ν is
Keeps ν (hard c ∷ is) = (clause ν c ≡ true) × Keeps ν is
Keeps ν (soft w l ∷ is) = Keeps ν is

-- the hard clauses, taken apart
pub hard-clauses : (ν : Assignment) → ν 0 ≡ false → (n : ℕ) (is : List Item)
    → (clauses ν (hard_clauses n is) ≡ true) ↔ (Holds ν n is × Keeps ν is)
unfolding hard_clauses clauses
hard-clauses ν z n [] = (λ _. (tt, tt), λ _. refl)
hard-clauses ν z n (gate g ∷ is) =
    let ih = hard-clauses ν z (suc n) is in
    let v = gate_holds ν z g n in
    let b = and-eq-true_iff (clauses ν (gate_clauses g n)) (clauses ν (hard_clauses (suc n) is)) in (
      λ e. let p = b.0 (rw clauses_append at e) in ((v.0 p.0, (ih.0 p.1).0), (ih.0 p.1).1),
      λ h. rw clauses_append (b.1 (v.1 h.0.0, ih.1 (h.0.1, h.1))),
    )
hard-clauses ν z n (hard c ∷ is) =
    let ih = hard-clauses ν z n is in
    let b = and-eq-true_iff (clause ν c) (clauses ν (hard_clauses n is)) in
    (λ e. let p = b.0 e in ((ih.0 p.1).0, (p.0, (ih.0 p.1).1)), λ h. b.1 (h.1.0, ih.1 (h.0, h.1.1)))
hard-clauses ν z n (soft w l ∷ is) = hard-clauses ν z n is

-- the number of gates of items one after the other; of gates alone
pub gates-append : (is js : List Item) → gates (is ++ js) ≡ gates is + gates js
gates-append [] js = sym (zero-add (gates js))
gates-append (gate g ∷ is) js = ap suc (gates-append is js) ∙ sym (suc-add (gates is) (gates js))
gates-append (hard c ∷ is) js = gates-append is js
gates-append (soft w l ∷ is) js = gates-append is js

pub gates-map : (gs : List Gate) → gates (map gate gs) ≡ length gs
gates-map [] = refl
gates-map (g ∷ gs) = ap suc (gates-map gs)

-- items without gates, for each of some things
pub gates-none : {A : Type 0} (f : A → List Item) → ((x : A) → gates (f x) ≡ 0) → (xs : List A) → gates (flat_map f xs) ≡ 0
unfolding flat_map
gates-none f h [] = refl
gates-none f h (x ∷ xs) = rw (gates-append, h x, gates-none f h xs)

-- the clauses of items one after the other
pub hard_clauses-append : (n : ℕ) (is js : List Item)
    → hard_clauses n (is ++ js) ≡ hard_clauses n is ++ hard_clauses (n + gates is) js
unfolding hard_clauses
hard_clauses-append n [] js = rw add-zero
hard_clauses-append n (gate g ∷ is) js = rw (hard_clauses-append (suc n) is js, add-suc, suc-add, append_assoc)
hard_clauses-append n (hard c ∷ is) js = ap (λ cs. c ∷ cs) (hard_clauses-append n is js)
hard_clauses-append n (soft w l ∷ is) js = hard_clauses-append n is js

module _ (ν : Assignment) where
  -- gates that hold, and clauses that are true, of items one after the other
  pub Holds-append : (n : ℕ) (is js : List Item) → Holds ν n (is ++ js) → Holds ν n is × Holds ν (n + gates is) js
  Holds-append n [] js h = (tt, rw add-zero h)
  Holds-append n (gate g ∷ is) js h =
      let q = Holds-append (suc n) is js h.1 in
      ((h.0, q.0), rw (suc-add, ← add-suc) at q.1)
  Holds-append n (hard c ∷ is) js h = Holds-append n is js h
  Holds-append n (soft w l ∷ is) js h = Holds-append n is js h

  -- gates alone, then other items
  pub Holds-gates : (n : ℕ) (gs : List Gate) (is : List Item) → Holds ν n (map gate gs ++ is)
      → Holds ν n (map gate gs) × Holds ν (n + length gs) is
  Holds-gates n gs is h = rw gates-map at (Holds-append n (map gate gs) is h)

  -- gate k of a list of gates
  pub Holds-at : (d : Gate) (n : ℕ) (gs : List Gate) → Holds ν n (map gate gs) → (k : ℕ) → k < length gs
      → ν (n + k) ≡ value ν (get_or gs k d)
  Holds-at d n [] h k l = let f : ⊥ = omega arith in absurd f
  Holds-at d n (g ∷ gs) h zero l = rw add-zero h.0
  Holds-at d n (g ∷ gs) h (suc k) l =
      let e : n + suc k ≡ suc n + k = omega arith in
      rw e (Holds-at d (suc n) gs h.1 k (omega arith))

  pub Keeps-append : (is js : List Item) → Keeps ν (is ++ js) ↔ (Keeps ν is × Keeps ν js)
  Keeps-append [] js = (λ k. (tt, k), λ k. k.1)
  Keeps-append (gate g ∷ is) js = Keeps-append is js
  Keeps-append (hard c ∷ is) js =
      let q = Keeps-append is js in
      (λ k. let p = q.0 k.1 in ((k.0, p.0), p.1), λ k. (k.0.0, q.1 (k.0.1, k.1)))
  Keeps-append (soft w l ∷ is) js = Keeps-append is js
