use mathlib.Core.Path.{◌≡◌, refl, sym, ◌∙◌}
use mathlib.Core.List.{List}
use Prim.Native.Nat.{ℕ}
use lib.ListN.{length}
use Rattle.theory.specs.Marked.{Standing}
use Rattle.directory.specs.Rows.{row_clause}
use Rattle.hints.specs.declared.machine.Phase.{Phase}
use Rattle.hints.specs.declared.machine.Phase.TheVariants.{Next, Walk, Followed, Keep, Wipe, Delete, Proved, Refused}
use Rattle.hints.specs.declared.machine.Machine.{Machine}
use Rattle.hints.specs.Machine.{turned_on, turned_marks, turned_trail, stands_by, advanced, advanced_marks, advanced_trail}
use Rattle.hints.proofs.machine.advance.Goals as goal

pub returns-then-is_dead : goal.returns-then-is_dead
unfolding advanced advanced_marks advanced_trail
returns-then-is_dead c = let z = sym c.is_dead.ensures ∙ c.if-is_dead.true in record { value = c.stop.ensures ∙ rw z; marks_after = rw z; trail_after = rw z }

pub returns-in_default : goal.returns-in_default
unfolding advanced advanced_marks advanced_trail
returns-in_default c = let z = sym c.is_dead.ensures ∙ c.if-is_dead.false in
    let e = c.in_default.is in record { value = c.stop-in_default.ensures ∙ rw (z, e); marks_after = rw (z, e); trail_after = rw (z, e) }

pub returns-in-Walk : goal.returns-in-Walk
unfolding advanced advanced_marks advanced_trail
returns-in-Walk c = let z = sym c.is_dead.ensures ∙ c.if-is_dead.false in
    let e = c.in-Ok.is in
    let p = c.in-Walk.is in record { value = c.take_hint.ensures.value ∙ rw (z, e, p); marks_after = c.take_hint.ensures.marks_after ∙ rw (z, e, p); trail_after = c.take_hint.ensures.trail_after ∙ rw (z, e, p) }

pub returns-in-Wipe : goal.returns-in-Wipe
unfolding advanced advanced_marks advanced_trail
returns-in-Wipe c = let z = sym c.is_dead.ensures ∙ c.if-is_dead.false in
    let e = c.in-Ok.is in
    let p = c.in-Wipe.is in record { value = c.step_on.ensures ∙ rw (z, e, p); marks_after = c.wipe_clause.ensures ∙ rw (z, e, p, c.first_word.ensures, c.word_count.ensures); trail_after = rw (z, e, p) }

-- in a phase that looks at no clause, nothing changes
others : (p : Phase) (k : ℕ) (m : Machine) (x : Standing) (id next n : ℕ) (cl ms tr : List ℕ) → (p ≡ Walk → ⊥) → (p ≡ Wipe → ⊥)
    → (turned_on k p m x id next ≡ m) × ((turned_marks p x cl ms ≡ ms) × (turned_trail p x n tr ≡ tr))
others Next k m x id next n cl ms tr a b = (refl, (refl, refl))
others Walk k m x id next n cl ms tr a b = absurd (a refl)
others Followed k m x id next n cl ms tr a b = (refl, (refl, refl))
others Keep k m x id next n cl ms tr a b = (refl, (refl, refl))
others Wipe k m x id next n cl ms tr a b = absurd (b refl)
others Delete k m x id next n cl ms tr a b = (refl, (refl, refl))
others Proved k m x id next n cl ms tr a b = (refl, (refl, refl))
others (Refused r) k m x id next n cl ms tr a b = (refl, (refl, refl))

pub returns-in_default-phase : goal.returns-in_default-phase
unfolding advanced advanced_marks advanced_trail
returns-in_default-phase c = let z = sym c.is_dead.ensures ∙ c.if-is_dead.false in
    let e = c.in-Ok.is in
    let a = c.args in
    let cl = row_clause a.row a.words.now in
    let o = others a.m.phase (length a.trail.now) a.m (stands_by a.marks.now cl) c.in-Ok.id c.in-Ok.next a.m.set cl a.marks.now a.trail.now
    c.in_default-phase.not-Walk c.in_default-phase.not-Wipe in
    record { value = rw (z, e) (sym o.0); marks_after = rw (z, e) (sym o.1.0); trail_after = rw (z, e) (sym o.1.1) }
