use mathlib.Core.Path.{◌≡◌, refl}
use Prim.Native.Nat.{ℕ}
use Rattle.std.proofs.Common.{Err}
use Rattle.scope.specs.declared.refusal.Reason.{Reason}
use Rattle.hints.specs.declared.machine.Phase.{Phase}
use Rattle.hints.specs.declared.machine.Phase.TheVariants.{Next, Walk, Followed, Keep, Wipe, Delete, Proved, Refused}
use Rattle.turns.specs.Check.{answer_of}
use Rattle.phases.proofs.next.answer.Goals as goal

-- a check that has not ended
others : (n : ℕ) (p : Phase) → (p ≡ Proved → ⊥) → ((k : Reason) → p ≡ Refused k → ⊥)
    → Err (record { reason = Reason.BadStep; value = n }) ≡ answer_of n p
others n Next a b = refl
others n Walk a b = refl
others n Followed a b = refl
others n Keep a b = refl
others n Wipe a b = refl
others n Delete a b = refl
others n Proved a b = absurd (a refl)
others n (Refused k) a b = absurd (b k refl)

pub returns-in_default : goal.returns-in_default
returns-in_default c = others c.args.c.tally.steps c.args.m.phase c.in_default.not-Proved c.in_default.not-Refused
