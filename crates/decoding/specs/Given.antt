-- What decoding gives of a file and a model.
use Rattle.std.specs.Prelude.{ℕ, List, []}
use Rattle.scope.specs.Parsed.{Answer, answered, refusal}
use Rattle.scope.specs.declared.Objective.{Objective}

-- "a refused one gives an empty part"
abbrev pub part_given : Answer (List ℕ × Objective) → List ℕ
part_given (answered x) = x.0
part_given (refusal k v) = []
