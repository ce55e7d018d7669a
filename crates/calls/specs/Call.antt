-- What a call leaves behind, for each answer of an operation.
use Rattle.std.specs.Prelude.{ℕ}
use Rattle.scope.specs.Parsed.{Answer, answered, refusal}

-- the number that the call returns, what stands at *value after it, and its other outputs
pub record Call (B : Type 0) : Type 0 where
  pub number : ℕ
  pub value : ℕ
  pub outputs : B

abbrev pub call : {B : Type 0} → ℕ → ℕ → B → Call B
call number value outputs = record { number = number; value = value; outputs = outputs }

-- an accepted call returns 0 and leaves the value and outputs that are written for its answer;
-- a refused one returns the refusal's number, leaves at *value what it gives, and the other outputs as they were
abbrev pub called : {A B : Type 0} → Answer A → (A → ℕ × B) → B → Call B
called (answered a) written before = call 0 (written a).0 (written a).1
called (refusal k v) written before = call k v before

-- the answer itself is written to the outputs, and *value, which held v, is kept
abbrev pub leaves : {B : Type 0} → Answer B → ℕ → B → Call B
leaves a v before = called a (λ outputs. (v, outputs)) before
