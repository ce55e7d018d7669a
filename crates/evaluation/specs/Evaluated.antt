-- What is told of a model by its lowest false clause, and what decoding makes of that.
use Rattle.std.specs.Prelude.{ℕ, cond, List, [], eqb, take, Result, Ok, Err}
use Rattle.scope.specs.declared.Objective.{Objective}
use Rattle.scope.specs.declared.refusal.Refusal.{Refusal}
use Rattle.scope.specs.declared.refusal.Reason.{Reason}

abbrev pub Evaluation : Type 0
Evaluation = Result (ℕ × Objective) Refusal

-- 13 with the id of a false clause, or the length of the part and the weight
abbrev pub judged_of : (bad lost part : ℕ) → Evaluation
judged_of bad lost part = cond (eqb bad 0) (Ok (part, record { 0 = lost })) (Err (record { reason = Reason.ClauseFalse; value = bad }))

-- the part of a model that an evaluation gives, empty where it is refused, and the answer beside it
abbrev pub part_of : Evaluation → List ℕ → List ℕ
part_of (Ok h) m = take h.0 m
part_of (Err f) m = []

abbrev pub part_length : Evaluation → ℕ
part_length (Ok h) = h.0
part_length (Err f) = 0

abbrev pub answer_of : Evaluation → Result Objective Refusal
answer_of (Ok h) = Ok h.1
answer_of (Err f) = Err f
