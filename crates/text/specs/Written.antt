-- What the text's operations answer, and every byte of the output after them.
use Rattle.std.specs.Prelude.{List, ◌++◌, ℕ, leb, length, drop}
use Rattle.scope.specs.Parsed.{Answer, answered, refusal, provided}
use Rattle.scope.specs.Instance.{Instance}
use Rattle.scope.specs.Text.{text}
use Rattle.sink.specs.Run.{out}

-- An accepted write changes just the bytes reported, which stand at the start; a refusal changes none.
abbrev pub written : Answer (List ℕ) → List ℕ → Answer ℕ × List ℕ
written (answered bytes) out = (answered (length bytes), bytes ++ drop (length bytes) out)
written (refusal k v) out = (refusal k v, out)

-- the text of an instance, or 9 where there is too little room
unfoldable pub text_in : Instance → ℕ → Answer (List ℕ)
text_in i room = provided (leb (length (text i)) room) 9 0 (answered (text i))
