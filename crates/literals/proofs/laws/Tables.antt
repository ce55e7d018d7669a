-- The groups and the durations of an instance that stands in tables: laws.
use Prim.Native.Nat.{ℕ, ◌-◌, ◌≤◌}
use mathlib.Core.Path.{◌≡◌, refl, sym, ap, ◌∙◌}
use mathlib.Core.Bool.{Bool, true, false}
use mathlib.Core.List.{List, []}
use native.Mathlib.Omega.{arith}
use lib.Dec.{ltb}
use lib.ListN.{get_or, take, length-take, get_or-eq_default}
use lib.Seq.{get_or-take}
use borrow.Author.Tests.{ltb-true, ltb-false}
use Rattle.scope.specs.Kinds.{Event, duration_of}
use Rattle.tables.specs.Rows.{events_of}
use Rattle.tables.proofs.laws.Laws.{length-events, events-at}
use Rattle.literals.specs.Tables.{duration_in}

-- the duration of an event of the tables is that in the table of durations
pub duration-in : (d t : List ℕ) (n e : ℕ) → duration_of (events_of d t n) e ≡ duration_in n d e
duration-in d t n e = go (ltb (e - 1) n) refl
  where
    none : Event
    none = record { duration = 0; resources = [] }

    go : (b : Bool) → ltb (e - 1) n ≡ b → duration_of (events_of d t n) e ≡ duration_in n d e
    go true q =
        let h = ltb-true (e - 1) n q in
        ap (λ (x : Event). x.duration) (events-at d t n (e - 1) none h) ∙ sym (get_or-take n d (e - 1) 0 h)
    go false q =
        let h = ltb-false (e - 1) n q in
        ap (λ (x : Event). x.duration) (get_or-eq_default (events_of d t n) none (rw length-events h))
        ∙ sym (get_or-eq_default (take n d) 0 (omega (arith, length-take n d)))

-- of an event that exists
pub duration-at : (d : List ℕ) (n e : ℕ) → 1 ≤ e → e ≤ n → duration_in n d e ≡ get_or d (e - 1) 0
duration-at d n e l h = get_or-take n d (e - 1) 0 (omega arith)
