-- What a call of decoding leaves, by the evaluation of its model.
use Rattle.std.specs.Prelude.{ℕ, Ok, Err}
use Rattle.scope.specs.Reason.{number_of}
use Rattle.calls.specs.Call.{Call, call}
use Rattle.evaluation.specs.Evaluated.{Evaluation}

-- a model that holds: the length of the part, and the cost; a refusal keeps what stood at the cost's place
abbrev pub leaves_evaluation : Evaluation → ℕ → Call ℕ
leaves_evaluation (Ok h) before = call 0 h.0 h.1.0
leaves_evaluation (Err f) before = call (number_of f.reason) f.value before
