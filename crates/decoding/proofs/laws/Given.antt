-- What decoding gives of a file and a model: laws.
use Prim.Native.Nat.{ℕ}
use mathlib.Core.Path.{◌≡◌, ap}
use mathlib.Core.List.{List}
use Rattle.scope.specs.Operations.{decode_of}
use Rattle.scope.specs.Answers.{decode_means}
use Rattle.std.specs.Prelude.{Result, Ok, Err}
use Rattle.scope.specs.declared.Objective.{Objective}
use Rattle.scope.specs.declared.refusal.Refusal.{Refusal}
use Rattle.evaluation.specs.Evaluated.{Evaluation, part_of, answer_of}
use Rattle.model.specs.Answers.{EvaluatedAs}
use Rattle.decoding.specs.Given.{part_given}

-- what decoding gives of a file and a model: a part, and the answer beside it
abbrev pub Gives : (s m p : List ℕ) (a : Result Objective Refusal) → Type 0
Gives s m p a = (decode_means p a ≡ decode_of s m) × (p ≡ part_given (decode_of s m))

-- the part and the answer of an evaluation are such
part-given : {s m : List ℕ} (e : Evaluation) → EvaluatedAs s m e → part_of e m ≡ part_given (decode_of s m)
part-given (Ok _) h = ap part_given h.answer
part-given (Err _) h = ap part_given h.answer

pub decoded-as : {s m : List ℕ} {e : Evaluation} {p : List ℕ} {a : Result Objective Refusal} → EvaluatedAs s m e → p ≡ part_of e m → a ≡ answer_of e
    → Gives s m p a
decoded-as {e = e} h f g = rw (f, g) (h.answer, part-given e h)
