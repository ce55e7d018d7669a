-- How a step's numbers stand in the bytes of a proof.
use mathlib.Core.Path.{◌≡◌}
use mathlib.Core.Bool.{true, false}
use mathlib.Core.List.{List}
use Prim.Native.Nat.{ℕ, ◌+◌, ◌≤◌, ◌<◌}
use lib.ListN.{length, drop}
use Rattle.std.specs.Prelude.{Option, Some, None}
use Rattle.theory.proofs.laws.StepTokens as steps
use Rattle.scope.specs.Steps.{Step, add, delete}
use Rattle.theory.proofs.laws.StepTokens.{Tokens, tokens, up_to0, numbers, read}
use Rattle.theory.proofs.laws.Marked.{all_open, all_false, literals_ok, well_formed}
use Rattle.marks.specs.Marks.{marks_of}
use Rattle.steps.specs.declared.step.Clause.{Clause}
use Rattle.steps.specs.declared.step.Step as parsed
use Rattle.steps.specs.declared.step.Step.TheVariants.{Adds, Deletes}

-- what is left of a proof from an offset on, and the numbers there up to a 0
abbrev pub tokens_at : List ℕ → ℕ → Tokens
tokens_at s at = tokens (drop at s)

abbrev pub numbers_at : List ℕ → ℕ → steps.Numbers
numbers_at s at = numbers (tokens_at s at)

-- the numbers ns stand at an offset, and what follows their 0 at next
pub record Listed (s : List ℕ) (at : ℕ) (ns : List ℕ) (next : ℕ) : Type 0 where
  pub listed : numbers_at s at ≡ up_to0 ns (tokens_at s next)
  pub ahead : at < next
  pub inside : next ≤ length s

-- numbers that are passed over
pub data Passes (s : List ℕ) (at : ℕ) : Option ℕ → Type 0 where
  ends : (ns : List ℕ) (next : ℕ) → Listed s at ns next → Passes s at (Some next)
  cut : numbers_at s at ≡ steps.cut → Passes s at None

-- the literals of a clause that are read, after k others, where each variable has a mark
pub record LiteralsAt (s : List ℕ) (at last : ℕ) (ms : List ℕ) (k : ℕ) (ms' : List ℕ) (size next : ℕ) : Type 0 where
  pub literals : List ℕ
  pub stand : Listed s at literals next
  pub count : k + length literals ≡ size
  pub good : literals_ok last (marks_of ms) literals ≡ true
  pub marks : marks_of ms' ≡ all_false (marks_of ms) literals

pub data ReadsLiterals (s : List ℕ) (at last : ℕ) (ms : List ℕ) (k : ℕ) (ms' : List ℕ) : Option (ℕ × ℕ) → Type 0 where
  reads : (size next : ℕ) → at < next → next ≤ length s → (last ≤ length ms → LiteralsAt s at last ms k ms' size next)
      → ReadsLiterals s at last ms k ms' (Some (size, next))
  bad_literals : (last ≤ length ms → (ls : List ℕ) (ts : Tokens) → numbers_at s at ≡ up_to0 ls ts
      → literals_ok last (marks_of ms) ls ≡ false)
      → ReadsLiterals s at last ms k ms' None

-- A step x that is read at an offset. It adds a clause
pub record AddsAt (x : steps.StepRead) (s : List ℕ) (highest last : ℕ) (ms' : List ℕ) (c : Clause) : Type 0 where
  pub literals : List ℕ
  pub hints : List ℕ
  pub next : ℕ
  pub step : x ≡ read (add c.id literals hints) (tokens_at s next)
  pub formed : well_formed last highest (add c.id literals hints) ≡ true
  pub literals_stand : Listed s c.literals literals c.hints
  pub hints_stand : Listed s c.hints hints next
  pub size : length literals ≡ c.size
  pub small : c.id ≤ 4294967295
  pub marks : marks_of ms' ≡ all_false all_open literals

-- it deletes ids
pub record DeletesAt (x : steps.StepRead) (s : List ℕ) (from : ℕ) : Type 0 where
  pub ids : List ℕ
  pub next : ℕ
  pub step : x ≡ read (delete ids) (tokens_at s next)
  pub stand : Listed s from ids next

-- it is misformed
abbrev pub MisformedAt : steps.StepRead → ℕ → ℕ → Type 0
MisformedAt x highest last = (st : Step) (ts : Tokens) → x ≡ read st ts → well_formed last highest st ≡ false

-- where each variable has a mark and is open
abbrev pub Open : ℕ → List ℕ → Type 0
Open last ms = (last ≤ length ms) × (marks_of ms ≡ all_open)

pub data ReadsStep (x : steps.StepRead) (s : List ℕ) (at highest last : ℕ) (ms ms' : List ℕ) : Option parsed.Step → Type 0 where
  adds : (c : Clause) → at < c.hints → c.hints ≤ length s → (Open last ms → AddsAt x s highest last ms' c)
      → ReadsStep x s at highest last ms ms' (Some (Adds c))
  deletes : (from : ℕ) → at < from → from ≤ length s → ms' ≡ ms → DeletesAt x s from
      → ReadsStep x s at highest last ms ms' (Some (Deletes from))
  misformed : (Open last ms → MisformedAt x highest last) → ReadsStep x s at highest last ms ms' None
