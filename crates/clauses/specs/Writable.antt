-- What the writer of a formula is lent: an accepted file with its tables, and a formula within its limit.
use Rattle.std.specs.Prelude.{ℕ, ◌+◌, ◌≤◌, List}
use Rattle.scope.specs.Instance.{Instance}
use Rattle.scope.specs.Formula.{primary, variables, formula}
use Rattle.constraint.specs.declared.kinds.Head.{Head}
use Rattle.instance.specs.Answers.{instance_of}
use Rattle.instance.specs.Laws.{Accepted}
use Rattle.instance.specs.Stores.{Stores}
use Rattle.sink.specs.Lines.{Line, lines}

pub record Writable (s d te tg list : List ℕ) (h : Head) : Type 0 where
  pub accepted : Accepted s d te tg h
  pub stores : Stores s d te tg list
  pub few : variables (instance_of s d te tg h) ≤ 8000000

-- the lines of an instance's formula
unfoldable pub formula_lines : Instance → List Line
formula_lines i = lines (primary i + 1) (formula i)
