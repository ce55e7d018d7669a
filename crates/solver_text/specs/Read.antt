-- What is told of a solver's text, and what the lent model and the store hold afterwards.
use Rattle.std.specs.Prelude.{ℕ, ◌≤◌, ◌≡◌, List, length, take, replicate, Ok, Err}
use Rattle.scope.specs.Parsed.{Answer, answered, refusal}
use Rattle.scope.specs.Operations.{solver_text_of}
use Rattle.scope.specs.Answers.{solver_text_means}
use Rattle.scope.specs.declared.Objective.{Objective}
use Rattle.evaluation.specs.Evaluated.{Evaluation, part_of, part_length, answer_of}

-- the answer that an evaluation of a model m stands for
abbrev pub read_means : Evaluation → List ℕ → Answer (List ℕ × (List ℕ × Objective))
read_means e m = solver_text_means m (part_of e m) (answer_of e)

-- a model that holds has so many bytes in the store
abbrev pub Room : Evaluation → (model store : ℕ) → Type 0
Room (Ok _) model store = model ≤ store
Room (Err _) model store = Unit {0}

-- what stands in the lent model afterwards
abbrev pub handed_over : Evaluation → (store model : List ℕ) → List ℕ
handed_over (Ok _) store model = take (length model) store
handed_over (Err _) store model = model

-- the model stands at the front of the store, for a lent model of so many bytes
pub record ReadAs (file output : List ℕ) (model : ℕ) (store store' : List ℕ) (e : Evaluation) : Type 0 where
  pub answer : read_means e (take model store') ≡ solver_text_of file output model (length store)
  pub inside : part_length e ≤ model
  pub room : Room e model (length store')

-- "a model refused by 13 leaves the lent one untouched", and so does every other refusal
abbrev pub filled_by : Answer (List ℕ × (List ℕ × Objective)) → List ℕ → List ℕ
filled_by (answered a) model = a.0
filled_by (refusal k v) model = model

-- the answer, the lent model and the store
abbrev pub left_by : (file output model store : List ℕ) → Answer (List ℕ × (List ℕ × Objective)) × List ℕ × List ℕ
left_by file output model store = (
  solver_text_of file output (length model) (length store),
  filled_by (solver_text_of file output (length model) (length store)) model,
  replicate (length store) 0,
)

pub record ReadInto (file output model store model' store' : List ℕ) (e : Evaluation) : Type 0 where
  pub leaves : (read_means e model', model', store') ≡ left_by file output model store
  pub inside : part_length e ≤ length model'
