-- What is told of a solver's text is what a call of it is to leave.
use Prim.Native.Nat.{ℕ, ◌≤◌}
use mathlib.Core.Path.{◌≡◌, refl, sym, ap, ◌∙◌}
use mathlib.Core.List.{List}
use lib.ListN.{length, replicate}
use lib.Seq.{length-take-le}
use Rattle.scope.specs.Parsed.{Answer, answered, refusal}
use Rattle.scope.specs.Operations.{solver_text_of}
use Rattle.scope.specs.declared.Objective.{Objective}
use Rattle.std.specs.Prelude.{Ok, Err}
use Rattle.evaluation.specs.Evaluated.{Evaluation, part_length}
use Rattle.solver_text.specs.Read.{read_means, filled_by, ReadInto}
use Rattle.calls.specs.Call.{Call, call, called}
use Rattle.decode_call.specs.Leaves.{leaves_evaluation}
use Rattle.operation_calls.specs.Operations.{solver_text_call}

-- the cost, the lent model and the store
abbrev Outputs : Type 0
Outputs = ℕ × List ℕ × List ℕ

-- an answer, the lent model and the store, as the definitions leave them
abbrev Left : Type 0
Left = Answer (List ℕ × (List ℕ × Objective)) × List ℕ × List ℕ

-- what is told of them
abbrev leaves_of : Left → ℕ → Call Outputs
leaves_of l before = called l.0 (λ d. (length d.1.0, (d.1.1.0, l.1, l.2))) (before, l.1, l.2)

module _ (file output model store : List ℕ) (before : ℕ) where
  left_called : (a : Answer (List ℕ × (List ℕ × Objective)))
      → leaves_of (a, filled_by a model, replicate (length store) 0) before
      ≡ called a (λ d. (length d.1.0, (d.1.1.0, d.0, replicate (length store) 0))) (before, model, replicate (length store) 0)
  left_called (answered d) = refl
  left_called (refusal k v) = refl

  told : (e : Evaluation) {number value cost : ℕ} {model' store' : List ℕ} → part_length e ≤ length model'
      → call number value cost ≡ leaves_evaluation e before
      → call {B = Outputs} number value (cost, model', store') ≡ leaves_of (read_means e model', model', store') before
  told (Ok d) {model' = model'} {store' = store'} h t =
      ap (λ (c : Call ℕ). call {B = Outputs} c.number c.value (c.outputs, model', store')) t
      ∙ ap (λ k. call {B = Outputs} 0 k (d.1.0, model', store')) (sym (length-take-le d.0 model' h))
  told (Err f) {model' = model'} {store' = store'} h t =
      ap (λ (c : Call ℕ). call {B = Outputs} c.number c.value (c.outputs, model', store')) t

  pub solver_text_told : {e : Evaluation} {number value cost : ℕ} {model' store' : List ℕ} → ReadInto file output model store model' store' e
      → call number value cost ≡ leaves_evaluation e before
      → call {B = Outputs} number value (cost, model', store') ≡ solver_text_call file output model store before
  solver_text_told {e} r t =
      told e r.inside t
      ∙ ap (λ (l : Left). leaves_of l before) r.leaves
      ∙ left_called (solver_text_of file output (length model) (length store))
