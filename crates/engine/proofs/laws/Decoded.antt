-- What an evaluation of a model says is what a call of decoding is to leave.
use Prim.Native.Nat.{ℕ}
use mathlib.Core.Path.{◌≡◌, refl, sym, ap, ◌∙◌}
use mathlib.Core.List.{List}
use lib.ListN.{length}
use lib.Seq.{length-take-le}
use Rattle.scope.specs.declared.Objective.{Objective}
use Rattle.scope.specs.declared.refusal.Refusal.{Refusal}
use Rattle.scope.specs.Reason.{number_of}
use Rattle.std.specs.Prelude.{Ok, Err}
use Rattle.model.specs.Answers.{EvaluatedAs}
use Rattle.evaluation.specs.Evaluated.{Evaluation}
use Rattle.calls.specs.Call.{call, called}
use Rattle.decode_call.specs.Leaves.{leaves_evaluation}
use Rattle.operation_calls.specs.Operations.{decode_call}

-- what is told of a part and its cost
abbrev decoded_of : List ℕ × Objective → ℕ × ℕ
decoded_of d = (length d.0, d.1.0)

module _ (file model : List ℕ) (before : ℕ) {e : Evaluation} (a : EvaluatedAs file model e) where
  decoded_call : {n : ℕ} {cost : Objective} → e ≡ Ok (n, cost) → call 0 n cost.0 ≡ decode_call file model before
  decoded_call {n} {cost} t =
      ap (λ k. call 0 k cost.0) (sym (length-take-le n model (rw t at a.inside))) ∙ ap (λ x. called x decoded_of before) (rw t at a.answer)

  decode_refused_call : {f : Refusal} → e ≡ Err f → call (number_of f.reason) f.value before ≡ decode_call file model before
  decode_refused_call t = ap (λ x. called x decoded_of before) (rw t at a.answer)

pub evaluation-call : (file model : List ℕ) (before : ℕ) (e : Evaluation) → EvaluatedAs file model e
    → leaves_evaluation e before ≡ decode_call file model before
evaluation-call file model before (Ok h) a = decoded_call file model before a refl
evaluation-call file model before (Err f) a = decode_refused_call file model before a refl
