-- Demand 2 of the operation: of what it gives, as its contract says it.
use Prim.Native.Nat.{ℕ, ◌≤◌}
use mathlib.Core.Path.{◌≡◌, sym, ap, ◌∙◌}
use mathlib.Core.List.{List, []}
use native.Mathlib.Omega.{arith}
use Rattle.scope.specs.Parsed.{answered}
use Rattle.scope.specs.Instance.{Instance}
use Rattle.scope.specs.Formula.{variables, most_variables}
use Rattle.scope.specs.Operations.{score_of, part, falsified_soft, decode_of}
use Rattle.scope.specs.Answers.{means}
use Rattle.scope.specs.Demands.{Accepted, KeepsHard, Model, OneToOne}
use Rattle.scope.specs.declared.Infeasibility.{Infeasibility}
use Rattle.scope.specs.declared.Objective.{Objective}
use Rattle.scope.specs.declared.refusal.Refusal.{Refusal}
use Rattle.std.specs.Prelude.{Result, Ok, Err}
use Rattle.theory.proofs.laws.Demands.{demand2}
use Rattle.theory.proofs.laws.Answered.{answered-value}
use Rattle.model.specs.Answers.{Decoded}
use Rattle.decoding.specs.Given.{part_given}
use Rattle.decoding.proofs.laws.Given.{Gives}

-- a model that is decoded: a part p at a cost
abbrev pub Decodes : List ℕ → List ℕ → List ℕ → Objective → Type 0
Decodes file m p cost = Gives file m p (Ok cost)

-- demand 2, for an accepted file within the limit of variables
pub record Matches (file : List ℕ) (i : Instance) : Type 0 where
  -- what is decoded is a model, and the part a timetable whose infeasibility is 0 and whose objective is the cost
  pub model : (m p : List ℕ) (cost : Objective) → Decodes file m p cost → Model i m
  pub scores : (m p : List ℕ) (cost : Objective) → Decodes file m p cost → KeepsHard file p cost
  -- no other model is decoded to that timetable
  pub only : (m n p : List ℕ) (a b : Objective) → Decodes file m p a → Decodes file n p b → m ≡ n
  -- each timetable of infeasibility 0 has a model that is decoded to it, at its objective
  pub every : (t : List ℕ) (cost : Objective) → KeepsHard file t cost → (m : List ℕ) × Decodes file m t cost
  -- a model that is refused is none, and its part is empty
  pub refused : (m p : List ℕ) (f : Refusal) → Gives file m p (Err f) → (Model i m → ⊥) × (p ≡ [])

module _ (file : List ℕ) (i : Instance) (a : Accepted file i) (l : variables i ≤ most_variables) where
  decoded : (m p : List ℕ) (cost : Objective) → Decodes file m p cost → decode_of file m ≡ answered (p, cost)
  decoded m p cost d = sym d.0

  one : OneToOne file i
  one = demand2 file i a l

  same_part : (m p : List ℕ) (cost : Objective) → Decodes file m p cost → ◌≡◌ {A = Decoded} (part i m, falsified_soft i m) (p, cost)
  same_part m p cost d =
      answered-value (sym (one.decodes m (one.only_models m p cost (decoded m p cost d))) ∙ decoded m p cost d)

  keeps : (m p : List ℕ) (cost : Objective) → Decodes file m p cost → KeepsHard file p cost
  keeps m p cost d =
      let s = same_part m p cost d in
      rw (ap (λ (x : Decoded). x.0) s, ap (λ (x : Decoded). x.1) s) at (one.cost m (one.only_models m p cost (decoded m p cost d)))

  pub demand2_of_decode : Matches file i
  demand2_of_decode =
      record {
        model = λ m p cost d. one.only_models m p cost (decoded m p cost d);
        scores = keeps;
        only = λ m n p x y d e.
            let o = one.one_model p x (keeps m p x d) in
            let f = o.3 m (one.only_models m p x (decoded m p x d)) (ap (λ (x : Decoded). x.0) (same_part m p x d)) in
            let g = o.3 n (one.only_models n p y (decoded n p y e)) (ap (λ (x : Decoded). x.0) (same_part n p y e)) in
            f ∙ sym g;
        every = λ t cost k.
            let o = one.one_model t cost k in
            let c = rw o.2 at (one.cost o.0 o.1) in
            let f : falsified_soft i o.0 ≡ cost = ap (λ (x : Infeasibility × Objective). x.1) (answered-value (sym c ∙ k)) in
            let e : decode_of file o.0 ≡ answered (t, cost) = one.decodes o.0 o.1 ∙ rw (o.2, f) in
            (o.0, (sym e, sym (ap part_given e)));
        refused = λ m p f d.
            (λ k. let e = d.0 ∙ one.decodes m k in let z : ◌≡◌ {A = ℕ} 0 1 = cc in omega arith, d.1 ∙ ap part_given (sym d.0));
      }

  -- whoever scores the part gets the same objective
  pub decoded_scored : (m p : List ℕ) (cost : Objective) → Decodes file m p cost
      → (r : Result (Infeasibility × Objective) Refusal) → means r ≡ score_of file p
      → r ≡ Ok (record { 0 = 0 }, cost)
  decoded_scored m p cost d (Ok s) e = ap Ok (answered-value (e ∙ keeps m p cost d))
  decoded_scored m p cost d (Err x) e = cc (e ∙ keeps m p cost d)
