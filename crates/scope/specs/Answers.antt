-- Which number and values of document 01 an answer stands for.
use Rattle.std.specs.Prelude.{List, ℕ, Result, Ok, Err}
use Rattle.scope.specs.Parsed.{Parsed, got, refused, Answer, answered, refusal}
use Rattle.scope.specs.Reason.{number_of}
use Rattle.scope.specs.declared.refusal.Refusal.{Refusal}
use Rattle.scope.specs.declared.Objective.{Objective}

abbrev pub given : {A : Type 0} → Refusal → Answer A
given f = refusal (number_of f.reason) f.value

-- what an operation answers
abbrev pub means : {A : Type 0} → Result A Refusal → Answer A
means (Ok a) = answered a
means (Err f) = given f

-- a refusal's number, and the value that it gives
abbrev pub refused_by : {A : Type 0} → Refusal → Parsed A
refused_by f = refused (number_of f.reason) f.value

-- a value that was read, with the offset after it
abbrev pub said : {A : Type 0} → Result (A × ℕ) Refusal → Parsed A
said (Ok r) = got r.0 r.1
said (Err f) = refused_by f

-- a decoded model's cost, with the part that is returned beside it
abbrev pub decode_means : List ℕ → Result Objective Refusal → Answer (List ℕ × Objective)
decode_means part (Ok o) = answered (part, o)
decode_means part (Err f) = given f

-- with the model that is filled and the part that is returned beside it
abbrev pub solver_text_means : (model part : List ℕ) → Result Objective Refusal → Answer (List ℕ × (List ℕ × Objective))
solver_text_means model part (Ok o) = answered (model, (part, o))
solver_text_means model part (Err f) = given f
