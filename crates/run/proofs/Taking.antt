-- The step that is taken, by what stands at its offset.
use mathlib.Core.Path.{◌≡◌, refl}
use mathlib.Core.Bool.{Bool, true, false, cond}
use mathlib.Core.List.{List}
use Prim.Native.Nat.{ℕ}
use lib.Dec.{leb}
use lib.ListN.{length}
use borrow.Author.Tests.{leb-true, leb-false}
use Rattle.scope.specs.declared.refusal.Reason.{Reason}
use Rattle.steps.specs.Step.{step_at}
use Rattle.reading.proofs.laws.StepReading.{step_reads}
use Rattle.hints.specs.declared.machine.Phase.TheVariants.{Refused}
use Rattle.turns.specs.declared.check.Check.{Check}
use Rattle.turns.specs.Check.{with_phase, stepped, StepTaken, step_taken}
use Rattle.turns.proofs.laws.Check.{TakesStep, over, takes}

pub takes_step : (s : List ℕ) (c : Check) (at last : ℕ) (ms : List ℕ)
    → TakesStep s c at last ms (step_taken s c at last ms).check (step_taken s c at last ms).marks
unfolding step_taken
takes_step s c at last ms = go (leb (length s) at) refl
  where
    go : (t : Bool) → leb (length s) at ≡ t
        → TakesStep s c at last ms
        (cond {A = StepTaken} t (record { check = with_phase c (Refused Reason.BadEnd); marks = ms })
        (record { check = stepped c (step_at s at c.tally.highest last ms).read; marks = (step_at s at c.tally.highest last ms).marks })).check
        (cond {A = StepTaken} t (record { check = with_phase c (Refused Reason.BadEnd); marks = ms })
        (record { check = stepped c (step_at s at c.tally.highest last ms).read; marks = (step_at s at c.tally.highest last ms).marks })).marks
    go true t = over (leb-true (length s) at t) refl
    go false t = takes (step_at s at c.tally.highest last ms).read (leb-false (length s) at t) (step_reads s c.tally.highest last ms at) refl
