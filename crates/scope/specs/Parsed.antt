-- What a reading at an offset gives, and what an operation answers.
use Rattle.std.specs.Prelude.{ℕ, zero, suc, List, [], ◌∷◌, Bool, true, false}

-- a value with the offset after it, or a refusal's number with the value that it gives
pub data Parsed (A : Type 0) : Type 0 where
  got : A → ℕ → Parsed A
  refused : ℕ → ℕ → Parsed A

-- an operation's answer, or a refusal's number with the value that it gives
pub data Answer (A : Type 0) : Type 0 where
  answered : A → Answer A
  refusal : ℕ → ℕ → Answer A

-- one reading after another: the first refusal is the result
abbrev pub and_then : {A B : Type 0} → Parsed A → (A → ℕ → Parsed B) → Parsed B
and_then (got a next) f = f a next
and_then (refused k v) f = refused k v

-- refusal k with the value v, unless the test holds
abbrev pub unless : {A : Type 0} → Bool → ℕ → ℕ → Parsed A → Parsed A
unless true k v p = p
unless false k v p = refused k v

-- what was read, before those after it
abbrev pub cons : {A : Type 0} → A → Parsed (List A) → Parsed (List A)
cons a (got xs end) = got (a ∷ xs) end
cons a (refused k v) = refused k v

-- the same reading n times
unfoldable pub repeat : {A : Type 0} → ℕ → (ℕ → Parsed A) → ℕ → Parsed (List A)
repeat zero f at = got [] at
repeat (suc n) f at = and_then (f at) (λ a next. cons a (repeat n f next))

-- an operation on what was read
abbrev pub with : {A B : Type 0} → Parsed A → (A → Answer B) → Answer B
with (got a end) f = f a
with (refused k v) f = refusal k v

-- one operation after another
abbrev pub then : {A B : Type 0} → Answer A → (A → Answer B) → Answer B
then (answered a) f = f a
then (refusal k v) f = refusal k v

-- refusal k with the value v, unless the test holds
abbrev pub provided : {A : Type 0} → Bool → ℕ → ℕ → Answer A → Answer A
provided true k v a = a
provided false k v a = refusal k v
