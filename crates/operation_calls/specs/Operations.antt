-- What each call leaves behind that does more than write its answer to its outputs (calls/specs/Call.antt, `leaves`), from its
-- inputs and what stood in its outputs before.
use Rattle.std.specs.Prelude.{List, ◌++◌, ℕ, length, drop, replicate}
use Rattle.scope.specs.Operations.{text_of, decode_of, solver_text_of, Lent, check_of, check_hard_of, best_of}
use Rattle.directory.specs.declared.Row.{Row}
use Rattle.directory.specs.Rows.{no_row}
use Rattle.scope.specs.Parsed.{Answer}
use Rattle.calls.specs.Call.{Call, called}

-- the text: *value is its length, and it stands at the front of the output, whose other bytes are kept
abbrev pub text_call : List ℕ → List ℕ → Call (List ℕ)
text_call file out = called (text_of file (length out)) (λ t. (length t, t ++ drop (length t) out)) out

-- decoding: *value is the length of the part, the cost is written
abbrev pub decode_call : List ℕ → List ℕ → ℕ → Call ℕ
decode_call file model objective = called (decode_of file model) (λ d. (length d.0, d.1.0)) objective

-- what a solver printed: *value is the length of the part, the cost and the model are written; the store is zero, accepted or refused
abbrev pub solver_text_call : (file output model store : List ℕ) → ℕ → Call (ℕ × List ℕ × List ℕ)
solver_text_call file output model store objective =
    called
    (solver_text_of file output (length model) (length store))
    (λ d. (length d.1.0, (d.1.1.0, d.0, replicate (length store) 0)))
    (objective, model, replicate (length store) 0)

-- words, rows and marks
abbrev pub Stores : Type 0
Stores = List ℕ × List Row × List ℕ

abbrev pub lent_by : Stores → Lent
lent_by s = record { words = length s.0; rows = length s.1; bytes = length s.2 }

-- as many zeros, and as many rows of four zeros
abbrev pub zeroed : Stores → Stores
zeroed s = (replicate (length s.0) 0, replicate (length s.1) no_row, replicate (length s.2) 0)

-- a check: *value is the number of steps; the stores are zero, accepted or refused
abbrev pub steps_call : Answer ℕ → Stores → Call Stores
steps_call a s = called a (λ steps. (steps, zeroed s)) (zeroed s)

-- checking a bound proof, and a proof without the tail
abbrev pub check_call : List ℕ → ℕ → List ℕ → Stores → Call Stores
check_call file bound proof s = steps_call (check_of file bound proof (lent_by s)) s

abbrev pub check_hard_call : List ℕ → List ℕ → Stores → Call Stores
check_hard_call file proof s = steps_call (check_hard_of file proof (lent_by s)) s

-- the best model: *value is the number of steps, the cost is written; the stores are zero, accepted or refused
abbrev pub best_call : List ℕ → List ℕ → List ℕ → ℕ → Stores → Call (ℕ × Stores)
best_call file model proof objective s =
    called (best_of file model proof (lent_by s)) (λ b. (b.1, (b.0.0, zeroed s))) (objective, zeroed s)
