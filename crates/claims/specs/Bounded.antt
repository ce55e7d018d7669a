-- What the writer of the formula with its tail is given, and what it leaves in the words.
use Rattle.std.specs.Prelude.{List, ℕ, ◌≤◌}
use Rattle.scope.specs.Formula.{bounded_variables}
use Rattle.constraint.specs.declared.kinds.Head.{Head}
use Rattle.instance.specs.Answers.{instance_of}
use Rattle.sizing.specs.declared.Size.{Size}
use Rattle.sizes.specs.Whole.{Numbers}
use Rattle.clauses.specs.Writable.{Writable}

-- an accepted file with its tables and sizes, where the formula with its tail is within its limits
pub record Bounding (s : List ℕ) (B : ℕ) (d te tg list : List ℕ) (h : Head) (z : Size) : Type 0 where
  pub writable : Writable s d te tg list h
  pub bound : B ≤ 4095
  pub few : bounded_variables (instance_of s d te tg h) B ≤ 8000000
  pub numbers : Numbers (instance_of s d te tg h) z
