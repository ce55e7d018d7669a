-- What a solver printed: each model has a text that is read as that model, and whatever is read of a text is a model of the hard clauses.
use mathlib.Core.Path.{◌≡◌, refl, sym, ap, ◌∙◌}
use mathlib.Core.List.{List}
use Prim.Native.Nat.{ℕ, ◌≤◌}
use lib.Dec.{leb, eqb}
use lib.ListN.{length}
use borrow.Author.Tests.{leb-true, le-leb, eq-eqb}
use Rattle.laws.specs.Booleans.{impossible}
use Rattle.scope.specs.Parsed.{Answer, answered, refusal, then}
use Rattle.scope.specs.Instance.{Instance}
use Rattle.scope.specs.Formula.{variables, most_variables}
use Rattle.scope.specs.SolverText.{model_in, model_text}
use Rattle.scope.specs.Operations.{part, falsified_soft, decode_of, solver_text_of}
use Rattle.scope.specs.Demands.{Accepted, KeepsHard, Model, DemandSolverText}
use Rattle.scope.specs.declared.Objective.{Objective}
use Rattle.theory.proofs.laws.Demands.{demand2}
use Rattle.theory.proofs.laws.Answered.{answered-value, provided_answers}
use Rattle.printed_model.proofs.laws.TextBack.{reads_back}

-- where both results are given, the first operation answers the first, and the second answers the other for it
then-answers : {A B : Type 0} (a : Answer A) (f : A → Answer B) {x : A} {y : B}
    → then {B = A × B} a (λ n. then (f n) (λ d. answered (n, d))) ≡ answered (x, y)
    → (a ≡ answered x) × (f x ≡ answered y)
then-answers {A} {B} (answered n) f {x} {y} e = go (f n) refl e
  where
    go : (r : Answer B) → f n ≡ r → then {B = A × B} r (λ d. answered (n, d)) ≡ answered (x, y) → (answered n ≡ answered x) × (f x ≡ answered y)
    go (answered d) q e =
        let same = answered-value e in
        let first : n ≡ x = ap (λ (p : A × B). p.0) same in
        (ap answered first, cc (first, ap (λ (p : A × B). p.1) same))
    go (refusal k v) q e = impossible (cc e)
then-answers (refusal k v) f e = impossible (cc e)

module _ (file : List ℕ) (i : Instance) (a : Accepted file i) where
  read_model : variables i ≤ most_variables → (m : List ℕ) → Model i m → model_in (variables i) (model_text m) ≡ answered m
  read_model l m h = rw h.size at (reads_back m (rw h.size l) h.bytes)

  every_model : variables i ≤ most_variables → (m : List ℕ) → Model i m → (store : ℕ) → variables i ≤ store
      → solver_text_of file (model_text m) (length m) store ≡ answered (m, (part i m, falsified_soft i m))
  unfolding solver_text_of
  every_model l m h store room =
      rw (
        a.parsed,
        le-leb (variables i) most_variables l,
        le-leb (variables i) store room,
        eq-eqb (length m) (variables i) h.size,
        read_model l m h,
        (demand2 file i a l).decodes m h,
      )

  -- an answered text is within the limit of variables, and what is decoded of it is that model's part and cost
  record Read (output m t : List ℕ) (cost : Objective) : Type 0 where
    few : variables i ≤ most_variables
    given : model_in (variables i) output ≡ answered m
    decoded : decode_of file m ≡ answered (t, cost)

  was_read : (output : List ℕ) (model store : ℕ) (m t : List ℕ) (cost : Objective)
      → solver_text_of file output model store ≡ answered (m, (t, cost)) → Read output m t cost
  unfolding solver_text_of
  was_read output model store m t cost e =
      let few = (provided_answers (leb (variables i) most_variables) 8 0 _).0 (rw a.parsed at e) in
      let room = (provided_answers (leb (variables i) store) 9 0 _).0 few.1 in
      let sized = (provided_answers (eqb model (variables i)) 10 (variables i) _).0 room.1 in
      let both = then-answers (model_in (variables i) output) (decode_of file) sized.1 in
      record { few = leb-true (variables i) most_variables few.0; given = both.0; decoded = both.1 }

  only_models : (output : List ℕ) (model store : ℕ) (m t : List ℕ) (cost : Objective)
      → solver_text_of file output model store ≡ answered (m, (t, cost))
      → (model_in (variables i) output ≡ answered m) × Model i m × (part i m ≡ t) × KeepsHard file t cost
  only_models output model store m t cost e =
      let r = was_read output model store m t cost e in
      let one = demand2 file i a r.few in
      let h = one.only_models m t cost r.decoded in
      let same = answered-value (sym (one.decodes m h) ∙ r.decoded) in
      let p : part i m ≡ t = ap (λ (x : List ℕ × Objective). x.0) same in
      let c : falsified_soft i m ≡ cost = ap (λ (x : List ℕ × Objective). x.1) same in
      (r.given, h, p, rw (p, c) at (one.cost m h))

pub demand_solver_text : DemandSolverText
demand_solver_text = record { reads_back = reads_back; every_model = every_model; only_models = only_models }
