-- Laws of reading one thing after another: what follows from a reading that got something, and the turns of a loop that reads.
use Rattle.std.specs.Prelude.{List, []}
use Rattle.scope.specs.Parsed.{Parsed, got, refused}

-- the list that was read; of a refusal none
abbrev pub list_of : {A : Type 0} → Parsed (List A) → List A
list_of (got xs end) = xs
list_of (refused k v) = []
