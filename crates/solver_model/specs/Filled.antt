-- What is told of a store that is filled with the model of a text.
use Rattle.std.specs.Prelude.{ℕ, ◌≤◌, ◌≡◌, List, leb, eqb, length, take, Result, Ok, Err}
use Rattle.scope.specs.Parsed.{Answer, answered, provided}
use Rattle.scope.specs.SolverText.{model_in}
use Rattle.scope.specs.Answers.{given}
use Rattle.scope.specs.declared.refusal.Refusal.{Refusal}
use Rattle.scope.specs.declared.refusal.Reason.{Reason}
use Rattle.solver_model.specs.Settled.{Settled}

-- the store holds the model; or a refusal
abbrev pub Given : Type 0
Given = Result Unit Refusal

-- 21
abbrev pub settled_means : Settled → Given
settled_means (Ok t) = Ok t
settled_means (Err v) = Err (record { reason = Reason.NotGivenOnce; value = v })

-- the model, or a refusal
abbrev pub given_means : Given → List ℕ → Answer (List ℕ)
given_means (Ok _) m = answered m
given_means (Err f) m = given f

-- the model of n variables, for a lent model of so many bytes and a store of so many: 9, 10, then the text
abbrev pub filled_of : ℕ → List ℕ → (model store : ℕ) → Answer (List ℕ)
filled_of n text model store = provided (leb n store) 9 0 (provided (eqb model n) 10 n (model_in n text))

pub record FilledAs (n : ℕ) (text : List ℕ) (model : ℕ) (st st' : List ℕ) (r : Given) : Type 0 where
  pub answer : given_means r (take model st') ≡ filled_of n text model (length st)
  pub wanted : r ≡ Ok tt → model ≡ n
  pub room : r ≡ Ok tt → n ≤ length st
