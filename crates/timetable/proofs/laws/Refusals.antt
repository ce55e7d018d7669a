-- The refusals of a timetable's bytes, one place after another.
use Prim.Native.Nat.{ℕ, ◌*◌}
use mathlib.Core.Path.{◌≡◌, refl, sym, ◌∙◌}
use mathlib.Core.Bool.{Bool, true, false}
use mathlib.Core.List.{List}
use mathlib.Core.Option.{Option as Maybe, none, some}
use lib.ListN.{length}
use lib.Dec.{eqb}
use borrow.Author.Tests.{eq-eqb, ne_eqb, eqb-true}
use Rattle.scope.specs.Parsed.{Answer, answered, refusal, provided, then}
use Rattle.scope.specs.Instance.{Instance}
use Rattle.scope.specs.Score.{slots, truth, first_above, first_wrong, unless_found, of_timetable}
use Rattle.std.proofs.Common.{Option, Some, None}
use Rattle.timetable.specs.Answers.{found_at}
use Rattle.timetable.specs.Right.{Lasts, Passed, wrong_from}
use Rattle.timetable.proofs.laws.Right.{wrong-event}

-- what was found is refused, and what was not found is passed
module _ {A : Type 0} (k : ℕ) (a : Answer A) (f : Option ℕ) (o : Maybe ℕ) (e : found_at f ≡ o) where
  found_stops : (v : ℕ) → f ≡ Some v → refusal k v ≡ unless_found k o a
  found_stops v t = rw (← e, t)

  found_none : (r : Answer A) → f ≡ None → r ≡ a → r ≡ unless_found k o a
  found_none r t p = rw (← e, t) p

module _ {A : Type 0} (i : Instance) (b d : List ℕ) (T n : ℕ) (a : Answer A) (l : Lasts i T n d) where
  wanted : 2 * slots i ≡ 2 * (n * T)
  wanted = rw (l.times, l.count)

  -- the length first
  pub length_wrong : (length b ≡ 2 * (n * T) → ⊥) → refusal 10 (2 * (n * T)) ≡ of_timetable i b a
  length_wrong h = rw (wanted, ne_eqb (length b) (2 * (n * T)) h)

  length_right : length b ≡ 2 * (n * T) → of_timetable i b a ≡ unless_found 11 (first_above 0 b) (unless_found 12 (first_wrong i (truth i b) 1 i.events) a)
  length_right h = rw (wanted, eq-eqb (length b) (2 * (n * T)) h)

  -- then the bytes, then the events
  module _ (h : length b ≡ 2 * (n * T)) (f : Option ℕ) (e : found_at f ≡ first_above 0 b) where
    pub bytes_wrong : (v : ℕ) → f ≡ Some v → refusal 11 v ≡ of_timetable i b a
    bytes_wrong v t = found_stops 11 (unless_found 12 (first_wrong i (truth i b) 1 i.events) a) f (first_above 0 b) e v t ∙ sym (length_right h)

    module _ (t : f ≡ None) (g : Option ℕ) (u : found_at g ≡ wrong_from b d (n * T) T 0 n) where
      events_left : of_timetable i b a ≡ unless_found 12 (wrong_from b d (n * T) T 0 n) a
      events_left =
          length_right h
          ∙ sym (found_none 11 (unless_found 12 (first_wrong i (truth i b) 1 i.events) a) f (first_above 0 b) e _ t refl)
          ∙ rw (wrong-event i b d T n l)

      pub event_wrong : (v : ℕ) → g ≡ Some v → refusal 12 v ≡ of_timetable i b a
      event_wrong v k = found_stops 12 a g (wrong_from b d (n * T) T 0 n) u v k ∙ sym events_left

      pub timetable_right : g ≡ None → a ≡ of_timetable i b a
      timetable_right k = found_none 12 a g (wrong_from b d (n * T) T 0 n) u a k refl ∙ sym events_left

pub ruleset refusals = (length_wrong, bytes_wrong, event_wrong, timetable_right)

-- the refusals do not depend on what comes after them
then_found : {A : Type 0} (k : ℕ) (o : Maybe ℕ) (a : Answer (Unit {0})) (b c : Answer A) → then a (λ _. b) ≡ c
    → then (unless_found k o a) (λ _. b) ≡ unless_found k o c
then_found k none a b c h = h
then_found k (some v) a b c h = refl

then-provided : {A : Type 0} (t : Bool) (k v : ℕ) (a : Answer (Unit {0})) (b c : Answer A) → then a (λ _. b) ≡ c
    → then (provided t k v a) (λ _. b) ≡ provided t k v c
then-provided true k v a b c h = h
then-provided false k v a b c h = refl

pub then-timetable : {A : Type 0} (i : Instance) (b : List ℕ) (a : Answer A)
    → then (of_timetable i b (answered (tt {0}))) (λ _. a) ≡ of_timetable i b a
then-timetable i b a =
    let events = first_wrong i (truth i b) 1 i.events in
    then-provided (eqb (length b) (2 * slots i)) 10 (2 * slots i) _ a _
    (then_found 11 (first_above 0 b) _ a _ (then_found 12 events (answered tt) a a refl))

-- bytes that are not refused have the length wanted, and no event is wrong
found-answered : {A : Type 0} (k : ℕ) (o : Maybe ℕ) (a : Answer A) {x : A} → answered x ≡ unless_found k o a → (o ≡ none) × (answered x ≡ a)
found-answered k none a e = (refl, e)
found-answered k (some v) a e = (cc, cc)

provided-answered : {A : Type 0} (t : Bool) (k v : ℕ) (a : Answer A) {x : A} → answered x ≡ provided t k v a → (t ≡ true) × (answered x ≡ a)
provided-answered true k v a e = (refl, e)
provided-answered false k v a e = (cc, cc)

pub timetable-passed : {A : Type 0} (i : Instance) (b : List ℕ) (a : Answer A) {x : A} → answered x ≡ of_timetable i b a → Passed i b
timetable-passed i b a e =
    let events = first_wrong i (truth i b) 1 i.events in
    let l = provided-answered (eqb (length b) (2 * slots i)) 10 (2 * slots i) _ e in
    let f = found-answered 11 (first_above 0 b) (unless_found 12 events a) l.1 in
    record { size = eqb-true (length b) (2 * slots i) l.0; right = (found-answered 12 events a f.1).0 }
