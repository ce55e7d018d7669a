-- What the program prints for its input, where it is printed from a buffer.
use Rattle.std.specs.Prelude.{cond, List, ℕ, leb, length}
use Rattle.scope.specs.Parsed.{Answer, refusal}
use Rattle.scope.specs.Operations.{text_of}

-- the text or a refusal, where the text may have so many bytes
unfoldable pub answer_for : List ℕ → ℕ → Answer (List ℕ)
answer_for input room = cond (leb (length input) 65536) (text_of input room) (refusal 9 0)
