-- Where a list that was read ends, for a reader that keeps none of its members.
use Rattle.std.specs.Prelude.{ℕ, List, leb, length, Result, Ok, Err}
use Rattle.scope.specs.Answers.{refused_by}
use Rattle.scope.specs.declared.refusal.Refusal.{Refusal}
use Rattle.scope.specs.Parsed.{Parsed, got, refused, and_then, unless, repeat}

-- the end alone
abbrev pub ends : {A : Type 0} → Parsed A → Parsed ℕ
ends (got a end) = got 0 end
ends (refused k v) = refused k v

-- where what was read ends
abbrev pub said_end : Result ℕ Refusal → Parsed ℕ
said_end (Ok end) = got 0 end
said_end (Err f) = refused_by f

-- the end; of a refusal 0
abbrev pub end_of : {A : Type 0} → Parsed A → ℕ
end_of (got a end) = end
end_of (refused k v) = 0

-- a list that has to reach the end of the bytes: 6 where some are left over
unfoldable pub whole_at : {A : Type 0} → List ℕ → ℕ → (ℕ → Parsed A) → ℕ → Parsed (List A)
whole_at s n f at = and_then (repeat n f at) (λ xs end. unless (leb (length s) end) 6 end (got xs end))
