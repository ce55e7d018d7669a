-- Demand 3, and what the check without the tail and the best model owe, from the models of the clauses.
use mathlib.Core.Path.{◌≡◌, refl, sym, ap, ◌∙◌}
use mathlib.Core.Bool.{Bool, true, false}
use mathlib.Core.List.{List}
use Prim.Native.Nat.{ℕ, zero, suc, ◌-◌, ◌≤◌, ◌<◌}
use native.Mathlib.Omega.{arith}
use lib.Dec.{ltb}
use borrow.Author.Tests.{ltb-true, ltb-false}
use Rattle.scope.specs.Parsed.{Answer, answered, refusal, then}
use Rattle.scope.specs.Instance.{Instance}
use Rattle.scope.specs.Cnf.{bit, clauses}
use Rattle.scope.specs.Formula.{bounded_hard}
use Rattle.scope.specs.Operations.{Lent, decode_of, check_of, nothing_below, best_of}
use Rattle.scope.specs.Demands.{Accepted, KeepsHard, Demand2, Demand3, DemandHard, DemandBest}
use Rattle.scope.specs.declared.Objective.{Objective}
use Rattle.laws.specs.Booleans.{impossible}
use Rattle.theory.proofs.laws.Answered.{answered-value}
use Rattle.theory.proofs.laws.Check.{check_exact, check_unsat, hard_exact, hard_unsat}
use Rattle.theory.proofs.laws.Match.{decoded-few}

-- a timetable that keeps every hard constraint at cost B or less gives a model of the hard clauses and the tail's
abbrev pub BoundedModel : Type 0
BoundedModel = (file : List ℕ) (i : Instance) (B : ℕ) (t : List ℕ) (cost : Objective) → Accepted file i → KeepsHard file t cost
    → cost.0 ≤ B → (m : List ℕ) × (clauses (bit m) (bounded_hard i B) ≡ true)

module _ (model : BoundedModel) where
  -- where "no timetable" is answered, every timetable that keeps the hard constraints costs more than the bound
  pub check_never : (file : List ℕ) (i : Instance) (B : ℕ) (proof : List ℕ) (l : Lent) (n : ℕ) → Accepted file i
      → check_of file B proof l ≡ answered n → (t : List ℕ) (cost : Objective) → KeepsHard file t cost → B < cost.0
  check_never file i B proof l n a e t cost k = go (ltb B cost.0) refl
    where
      go : (b : Bool) → ltb B cost.0 ≡ b → B < cost.0
      go true h = ltb-true B cost.0 h
      go false h =
          let m = model file i B t cost a k (ltb-false B cost.0 h) in
          absurd (check_unsat file i proof l n a B e (bit m.0) m.1)

  -- demand 3 in full
  pub demand3 : Demand3
  demand3 =
      record {
        never = check_never;
        exactly = λ file i B proof l n a. check_exact file i proof l n a B;
        best =
            λ file i m t w proof l n a d low high e u cost k.
            let h = check_never file i (w.0 - 1) proof l n a e u cost k in
            omega arith;
      }

  -- where nothing below a cost is answered, nothing costs less
  below_least : (file : List ℕ) (i : Instance) (w : ℕ) (proof : List ℕ) (l : Lent) (n : ℕ) → Accepted file i
      → nothing_below file w proof l ≡ answered n → (t : List ℕ) (cost : Objective) → KeepsHard file t cost → w ≤ cost.0
  below_least file i zero proof l n a e t cost k = omega arith
  below_least file i (suc B) proof l n a e t cost k = check_never file i B proof l n a e t cost k

  module _ (two : Demand2) where
    -- the check without the tail: a timetable that keeps every hard constraint has a model of the hard clauses
    pub demand-hard : DemandHard
    demand-hard =
        record {
          never = λ file i proof l n a e t cost k.
              let few = ((hard_exact file i proof l n a).0 e).size in
              let m = (two file i a few).one_model t cost k in
              hard_unsat file i proof l n a e (bit m.0) m.1.holds;
          exactly = λ file i proof l n a. hard_exact file i proof l n a;
        }

    -- what decoding and the check below its cost answered
    parts : (file m proof : List ℕ) (l : Lent) (w : Objective) (n : ℕ) → best_of file m proof l ≡ answered (w, n)
        → (p : List ℕ) × (decode_of file m ≡ answered (p, w)) × (nothing_below file w.0 proof l ≡ answered n)
    unfolding best_of
    parts file m proof l w n e = go (decode_of file m) refl e
      where
        Found : Type 0
        Found = (p : List ℕ) × (decode_of file m ≡ answered (p, w)) × (nothing_below file w.0 proof l ≡ answered n)

        step : (p : List ℕ) (v : Objective) (a : Answer ℕ) → decode_of file m ≡ answered (p, v) → nothing_below file v.0 proof l ≡ a
            → then {B = Objective × ℕ} a (λ steps. answered (v, steps)) ≡ answered (w, n) → Found
        step p v (answered k) d b e =
            let s = answered-value e in
            let x : v ≡ w = ap (λ (y : Objective × ℕ). y.0) s in
            let y : k ≡ n = ap (λ (y : Objective × ℕ). y.1) s in
            (p, rw x at d, rw (x, y) at b)
        step p v (refusal j u) d b e = impossible (cc)

        go : (a : Answer (List ℕ × Objective)) → decode_of file m ≡ a
            → then {B = Objective × ℕ} a (λ d. then (nothing_below file d.1.0 proof l) (λ steps. answered (d.1, steps))) ≡ answered (w, n)
            → Found
        go (answered d) t e = step d.0 d.1 (nothing_below file d.1.0 proof l) t refl e
        go (refusal j u) t e = impossible (cc)

    -- the best model
    pub demand-best : DemandBest
    demand-best file i m proof l w n a e =
        let p = parts file m proof l w n e in
        let one = two file i a (decoded-few file i a m p.1) in
        let model = one.only_models m p.0 w p.1 in
        let same = answered-value (sym (one.decodes m model) ∙ p.1) in
        record {
          model = model;
          keeps = rw (ap (λ (x : List ℕ × Objective). x.1) same) at (one.cost m model);
          least = below_least file i w.0 proof l n a p.2;
        }
