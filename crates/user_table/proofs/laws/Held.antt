-- The formula of an instance that stands in tables, by numbers and the tables' rows.
use Prim.Native.Nat.{ℕ, zero, suc, ◌≤◌}
use mathlib.Core.Path.{◌≡◌, refl, sym, ap, fun_ext, ◌∙◌}
use mathlib.Core.List.{List, [], ◌∷◌, map, map-append}
use native.Mathlib.Omega.{arith}
use lib.ListN.{length, get_or, take}
use lib.Seq.{take-suc}
use Rattle.scope.specs.Kinds.{Event, users}
use Rattle.scope.specs.Instance.{Instance}
use Rattle.scope.specs.Formula.{formula}
use Rattle.tables.specs.Rows.{row_at, rows, events_of}
use Rattle.tables.proofs.laws.Laws.{length-events}
use Rattle.literals.specs.Tables.{group_in}
use Rattle.literals.specs.Numbered.{numbered_formula}
use Rattle.literals.proofs.laws.Blocks.{formula_numbers}
use Rattle.user_table.specs.Users.{users_in}
use Rattle.user_table.proofs.laws.Users.{users-in}

-- the durations in their table
pub durations-in : (d t : List ℕ) (n : ℕ) → n ≤ length d → map (λ x. x.duration) (events_of d t n) ≡ take n d
unfolding events_of
durations-in d t zero h = refl
durations-in d t (suc n) h =
    map-append (λ (x : Event). x.duration) (events_of d t n) (record { duration = get_or d n 0; resources = row_at t n } ∷ [])
    ∙ rw (durations-in d t n (omega arith)) (sym (take-suc d n 0 h))

-- an instance in tables: of its events durations d and resources t, of its groups gs
pub record Held (i : Instance) (T E R G : ℕ) (d t gs : List ℕ) : Type 0 where
  pub times : i.times ≡ T
  pub resources : i.resources ≡ R
  pub events : i.events ≡ events_of d t E
  pub groups : i.groups ≡ rows gs G
  pub room : E ≤ length d

-- its formula
pub formula-tables : {i : Instance} {T E R G : ℕ} {d t gs : List ℕ} → Held i T E R G d t gs
    → formula i ≡ numbered_formula T (users_in t E) (group_in G gs) E R (take E d) i.constraints
formula-tables {i} {T} {E} {R} {G} {d} {t} {gs} h =
    let e : ◌≡◌ {A = ℕ → List ℕ} (λ r. users r (events_of d t E)) (users_in t E) = fun_ext (users-in d t E) in
    formula_numbers i
    ∙ rw (h.times, h.resources, h.events, h.groups, length-events d t E, durations-in d t E h.room)
    (ap (λ (us : ℕ → List ℕ). numbered_formula T us (group_in G gs) E R (take E d) i.constraints) e)
