-- What the answers of this crate say of a file, and what an operation that starts with them answers.
use Rattle.std.specs.Prelude.{ℕ, ◌≤◌, ◌≡◌, cond, List, leb, Result, Ok, Err}
use Rattle.scope.specs.Parsed.{Answer, answered, with}
use Rattle.scope.specs.Instance.{Instance, parse}
use Rattle.scope.specs.Formula.{variables, bounded_variables, most_variables}
use Rattle.scope.specs.Operations.{of_size, of_bound, formula_size}
use Rattle.scope.specs.Answers.{given}
use Rattle.scope.specs.declared.refusal.Reason.{Reason}
use Rattle.scope.specs.declared.refusal.Refusal.{Refusal}
use Rattle.scope.specs.declared.FormulaSize.{FormulaSize}
use Rattle.theory.specs.Accepted.{ValidInstance}
use Rattle.constraint.specs.declared.kinds.Head.{Head}
use Rattle.instance.specs.Answers.{instance_of}
use Rattle.instance.specs.Laws.{Accepted}
use Rattle.sizing.specs.declared.Size.{Size}
use Rattle.sizing.specs.Sums.{sum}
use Rattle.sizing.specs.Whole.{stored}
use Rattle.part_sizes.specs.declared.walk.Total.{Total}
use Rattle.sizes.specs.Whole.{Numbers}

-- the instance of a file, or refusals 1 to 6, 8 and 19; with a bound 7 too
unfoldable pub sized_of : List ℕ → Answer Instance
sized_of s = with (parse s) (λ i. of_size i (answered i))

unfoldable pub bounded_of : List ℕ → ℕ → Answer Instance
bounded_of s B = with (parse s) (λ i. of_bound i B (answered i))

-- the instance that the tables hold, and the numbers of its formula
pub record SizedBy (s d te tg : List ℕ) (h : Head) (z : Size) : Type 0 where
  pub accepted : Accepted s d te tg h
  pub valid : ValidInstance (instance_of s d te tg h)
  pub answer : sized_of s ≡ answered (instance_of s d te tg h)
  pub few : variables (instance_of s d te tg h) ≤ 8000000
  pub numbers : Numbers (instance_of s d te tg h) z

-- the same with the tail for the bound B
pub record BoundedBy (s : List ℕ) (B : ℕ) (d te tg : List ℕ) (h : Head) (z : Size) (w : FormulaSize) : Type 0 where
  pub accepted : Accepted s d te tg h
  pub valid : ValidInstance (instance_of s d te tg h)
  pub bound : B ≤ 4095
  pub answer : bounded_of s B ≡ answered (instance_of s d te tg h)
  pub few : bounded_variables (instance_of s d te tg h) B ≤ 8000000
  pub numbers : Numbers (instance_of s d te tg h) z
  pub whole : w ≡ formula_size (instance_of s d te tg h) B

-- a refusal
pub record RefusedBy (a : Answer Instance) (f : Refusal) : Type 0 where
  pub answer : a ≡ given f

-- what the answers say
abbrev pub measured_as : List ℕ → List ℕ → List ℕ → List ℕ → Result (Head × Size) Refusal → Type 0
measured_as s d te tg (Ok r) = SizedBy s d te tg r.0 r.1
measured_as s d te tg (Err f) = RefusedBy (sized_of s) f

abbrev pub bounded_as : List ℕ → ℕ → List ℕ → List ℕ → List ℕ → Result (Head × Size × FormulaSize) Refusal → Type 0
bounded_as s B d te tg (Ok r) = BoundedBy s B d te tg r.0 r.1 r.2
bounded_as s B d te tg (Err f) = RefusedBy (bounded_of s B) f

-- 8, without and with the tail
abbrev pub too_many : Refusal
too_many = record { reason = Reason.TooManyVariables; value = 0 }

abbrev pub judged_size : Head → Size → Result (Head × Size) Refusal
judged_size h z = cond (leb z.variables most_variables) (Ok (h, z)) (Err too_many)

abbrev pub judged_total : Head → Total → Result (Head × Size × FormulaSize) Refusal
judged_total h t =
    let w = stored (sum t.formula t.tail) in
    cond (leb w.variables most_variables) (Ok (h, t.formula, w)) (Err too_many)
