-- What the answers of this crate say of a file and a model.
use Rattle.std.specs.Prelude.{ℕ, ◌≤◌, ◌≡◌, List, length, Result, Ok, Err}
use Rattle.scope.specs.Parsed.{Answer}
use Rattle.scope.specs.Score.{of_bytes}
use Rattle.scope.specs.Operations.{decode_of}
use Rattle.scope.specs.Answers.{given, decode_means}
use Rattle.scope.specs.declared.Objective.{Objective}
use Rattle.scope.specs.declared.refusal.Refusal.{Refusal}
use Rattle.evaluation.specs.Evaluated.{Evaluation, part_of, part_length, answer_of}

-- a decoded model: the part that holds Y and S, and the cost
abbrev pub Decoded : Type 0
Decoded = List ℕ × Objective

-- whether bytes may be a model
abbrev pub Form : Type 0
Form = Result Unit Refusal

-- 10 and 11, then what comes after them
abbrev pub form_then : Form → Answer Decoded → Answer Decoded
form_then (Ok _) a = a
form_then (Err f) a = given f

pub record FormOf (n : ℕ) (m : List ℕ) (f : Form) : Type 0 where
  pub says : (a : Answer Decoded) → form_then f a ≡ of_bytes n m a
  pub long : f ≡ Ok tt → length m ≡ n

pub record EvaluatedAs (s m : List ℕ) (e : Evaluation) : Type 0 where
  pub answer : decode_means (part_of e m) (answer_of e) ≡ decode_of s m
  pub inside : part_length e ≤ length m
