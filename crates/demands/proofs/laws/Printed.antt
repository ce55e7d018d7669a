-- What the C function timetable_solver_text says of timetables, whatever text a solver printed. `engine` proves that a call leaves
-- solver_text_call of what it was lent.
use Prim.Native.Nat.{ℕ, ◌≤◌}
use mathlib.Core.Path.{◌≡◌, refl, sym, ap, ◌∙◌}
use mathlib.Core.List.{List}
use lib.ListN.{length, take, replicate}
use Rattle.scope.specs.Parsed.{Answer, answered}
use Rattle.scope.specs.Instance.{Instance, parse}
use Rattle.scope.specs.Formula.{primary, variables, most_variables}
use Rattle.scope.specs.SolverText.{model_in, model_text}
use Rattle.scope.specs.Operations.{score_of, part, falsified_soft, solver_text_of}
use Rattle.scope.specs.Demands.{Accepted, KeepsHard, Model}
use Rattle.scope.specs.declared.Objective.{Objective}
use Rattle.printed_model.proofs.laws.Demand.{demand_solver_text}
use Rattle.calls.specs.Call.{call, called}
use Rattle.operation_calls.specs.Operations.{solver_text_call}
use Rattle.refusal_numbers.proofs.laws.Numbers.{zero-accepted, solver-text-numbers}
use Rattle.refusal_numbers.proofs.laws.Numbers as numbers
use Rattle.demands.proofs.laws.Calls.{Read, was_read, take_again}

-- a model, its part and its cost
abbrev Found : Type 0
Found = List ℕ × (List ℕ × Objective)

text-read : (file output : List ℕ) (model store : ℕ) {d : Found} → solver_text_of file output model store ≡ answered d → Read file
unfolding solver_text_of
text-read file output model store h = was_read file (parse file) _ refl h

module _ (file output model store : List ℕ) (before : ℕ) where
  -- what is written of it
  abbrev found_of : Found → ℕ × (ℕ × List ℕ × List ℕ)
  found_of d = (length d.1.0, (d.1.1.0, d.0, replicate (length store) 0))

  -- timetable_solver_text returns 0, with k in *value, w in *objective, and m in the lent model
  pub record Filled (k w : ℕ) (m : List ℕ) : Type 0 where
    pub number : (solver_text_call file output model store before).number ≡ 0
    pub value : (solver_text_call file output model store before).value ≡ k
    pub objective : (solver_text_call file output model store before).outputs.0 ≡ w
    pub filled : (solver_text_call file output model store before).outputs.1 ≡ m

  module _ {k w : ℕ} {m : List ℕ} (f : Filled k w m) where
    accepts : numbers.Accepted (solver_text_of file output (length model) (length store))
    accepts =
        zero-accepted found_of (before, model, replicate (length store) 0) refl (solver-text-numbers file output (length model) (length store)) f.number

    found : solver_text_of file output (length model) (length store) ≡ answered (m, (accepts.result.1.0, record { 0 = w }))
    found =
        let a = accepts.eq in
        a
        ∙ ap (λ (x : List ℕ). answered (x, (accepts.result.1.0, accepts.result.1.1))) (rw a at f.filled)
        ∙ ap (λ (v : ℕ). answered (m, (accepts.result.1.0, record { 0 = v }))) (rw a at f.objective)

    -- the file was read, and the lent model holds what the text gives: a model whose first k bytes are a timetable that keeps every hard
    -- constraint at the cost w
    pub record Given : Type 0 where
      pub read : Read file
      pub given : model_in (variables read.instance) output ≡ answered m
      pub holds : Model read.instance m
      pub keeps : KeepsHard file (take k m) (record { 0 = w })

    pub text_given : Given
    text_given =
        let r = text-read file output (length model) (length store) found in
        let o = demand_solver_text.only_models file r.instance r.accepted output (length model) (length store) m accepts.result.1.0 (record { 0 = w }) found in
        let long : length accepts.result.1.0 ≡ k = rw accepts.eq at f.value in
        let first : take k m ≡ accepts.result.1.0 =
        ap (λ (n : ℕ). take n m) (sym long) ∙ ap (λ (t : List ℕ). take (length t) m) (sym o.2) ∙ take_again (primary r.instance) m ∙ o.2 in
        record { read = r; given = o.0; holds = o.1; keeps = ap (λ t. score_of file t) first ∙ o.3 }

-- "For each model there is a text that reads back as that model": called with that text, a model of the right length and a store of at
-- least that length, it leaves the model, its part's length and its cost
pub each-model : (file : List ℕ) (i : Instance) → Accepted file i → variables i ≤ most_variables → (m : List ℕ) → Model i m
    → (model store : List ℕ) → length model ≡ length m → variables i ≤ length store → (before : ℕ)
    → solver_text_call file (model_text m) model store before ≡ call 0 (length (part i m)) ((falsified_soft i m).0, m, replicate (length store) 0)
each-model file i a l m h model store same room before =
    ap (λ (x : Answer Found). called x (found_of file (model_text m) model store before) (before, model, replicate (length store) 0))
    (ap (λ (n : ℕ). solver_text_of file (model_text m) n (length store)) same ∙ demand_solver_text.every_model file i a l m h (length store) room)
