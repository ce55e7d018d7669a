use mathlib.Core.Path.{◌≡◌, refl, sym, ◌∙◌}
use mathlib.Core.List.{List}
use Prim.Native.Nat.{ℕ}
use Rattle.hints.specs.declared.machine.Phase.{Phase}
use Rattle.hints.specs.declared.machine.Phase.TheVariants.{Next, Walk, Followed, Keep, Wipe, Delete, Proved, Refused}
use Rattle.hints.specs.Machine.{stopped}
use Rattle.turns.specs.Check.{entered_at}
use Rattle.phases.proofs.next.enter.Goals as goal

-- in a phase that wants no id, the machine stands still
others : (s : List ℕ) (at id : ℕ) (p : Phase) → (p ≡ Walk → ⊥) → (p ≡ Delete → ⊥) → (p ≡ Wipe → ⊥) → entered_at s at id p ≡ stopped p at
others s at id Next a b d = refl
others s at id Walk a b d = absurd (a refl)
others s at id Followed a b d = refl
others s at id Keep a b d = refl
others s at id Wipe a b d = absurd (d refl)
others s at id Delete a b d = absurd (b refl)
others s at id Proved a b d = refl
others s at id (Refused k) a b d = refl

pub returns-in-Walk : goal.returns-in-Walk
returns-in-Walk c = rw c.in-Walk.is c.first_id.ensures

pub returns-in-Delete : goal.returns-in-Delete
returns-in-Delete c = rw c.in-Delete.is c.first_id-in-Delete.ensures

pub returns-in_default : goal.returns-in_default
returns-in_default c =
    let a = c.args in
    c.stop.ensures ∙ sym (others a.proof.now a.c.clause.hints a.c.clause.id a.c.phase c.in_default.not-Walk c.in_default.not-Delete c.in_default.not-Wipe)
