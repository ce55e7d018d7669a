-- Walking the constraints of an accepted file: each call decodes the next of them, and none is refused.
use Rattle.std.specs.Prelude.{ℕ, ◌-◌, ◌≡◌, List, length, drop}
use Rattle.scope.specs.Parsed.{got, repeat}
use Rattle.scope.specs.Kinds.{Constraint}
use Rattle.scope.specs.Instance.{Counts}
use Rattle.parsing.specs.Parsing.{list_of}
use Rattle.constraint.specs.declared.kinds.Head.{Head}
use Rattle.constraint.specs.Answers.{counts_in}
use Rattle.constraint.specs.Decoded.{decoded_at}

-- after i of the constraints cs, the others stand from an offset on, up to the file's end
pub record Walk (n : Counts) (s : List ℕ) (count i at : ℕ) (cs : List Constraint) : Type 0 where
  pub left : repeat (count - i) (decoded_at n s) at ≡ got (drop i cs) (length s)

-- the constraints of a file with that head
unfoldable pub constraints_in : Head → List ℕ → List Constraint
constraints_in h s = list_of (repeat h.constraints (decoded_at (counts_in h) s) h.start)
