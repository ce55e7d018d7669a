-- A check between two walks over ids: what is counted, and what each step-level turn makes of it: laws.
use mathlib.Core.Path.{◌≡◌}
use mathlib.Core.List.{List}
use Prim.Native.Nat.{ℕ, ◌≤◌, ◌<◌}
use lib.ListN.{length}
use Rattle.std.specs.Prelude.{Option}
use Rattle.scope.specs.declared.refusal.Reason.{Reason}
use Rattle.theory.proofs.laws.StepTokens.{read_step}
use Rattle.steps.specs.declared.step.Step.{Step}
use Rattle.hints.specs.declared.machine.Phase.TheVariants.{Refused}
use Rattle.turns.specs.declared.check.Check.{Check}
use Rattle.reading.proofs.laws.Reading.{tokens_at, ReadsStep}
use Rattle.turns.specs.Check.{with_phase, stepped}

-- what it comes to
pub data TakesStep (s : List ℕ) (c : Check) (at last : ℕ) (ms : List ℕ) (r : Check) (ms' : List ℕ) : Type 0 where
  over : length s ≤ at → r ≡ with_phase c (Refused Reason.BadEnd) → TakesStep s c at last ms r ms'
  takes : (x : Option Step) → at < length s → ReadsStep (read_step (tokens_at s at)) s at c.tally.highest last ms ms' x
      → r ≡ stepped c x
      → TakesStep s c at last ms r ms'
