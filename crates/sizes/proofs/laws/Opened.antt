-- What is known of an accepted file, its tables and the table of users, for the walk over them: laws.
use Prim.Native.Nat.{ℕ, zero, suc, ◌+◌, ◌≤◌, ◌<◌}
use mathlib.Core.Path.{◌≡◌, sym, ap, ◌∙◌}
use mathlib.Core.List.{List, [], ◌∷◌}
use mathlib.Core.Logic.{⊎_elim}
use native.Mathlib.Nat.{not-suc-le-zero, le_of_suc-le-suc, eq-or-lt_of_le}
use native.Mathlib.Omega.{arith}
use lib.ListN.{length, get_or}
use Rattle.theory.specs.Accepted.{ValidInstance}
use Rattle.theory.proofs.laws.Accepted.{gives-instance}
use Rattle.parsing.specs.Each.{Each}
use Rattle.parsing.proofs.laws.Each.{each-front, each_last}
use Rattle.tables.specs.Rows.{row_at, events_of}
use Rattle.tables.proofs.laws.Laws.{length-events}
use Rattle.tables.specs.Reading.{EventIn}
use Rattle.tables.proofs.laws.Room.{room-kept}
use Rattle.constraint.specs.declared.kinds.Head.{Head}
use Rattle.instance.specs.Answers.{instance_of}
use Rattle.instance.specs.Laws.{Accepted}
use Rattle.instance.specs.Stores.{Stores}
use Rattle.user_table.specs.Users.{users_in}
use Rattle.user_table.proofs.laws.Users.{users-in}
use Rattle.user_table.specs.Filled.{Filled, EventRows}
use Rattle.user_table.proofs.laws.Filled.{filled_rows}
use Rattle.fitting.proofs.laws.Known.{known_rows}
use Rattle.sizing.specs.declared.Size.{Size}
use Rattle.sizing.specs.Sums.{Within}
use Rattle.sizing.proofs.laws.Sums.{within_more}
use Rattle.measuring.specs.Whole.{before_size, whole_size, tail_of}
use Rattle.part_sizes.specs.declared.walk.Total.{Total}
use Rattle.before_sizes.specs.Before.{Users, Begun, blocks_size}
use Rattle.part_sizes.specs.Walked.{Tabled, Walkable, TotalOf}
use Rattle.sizes.specs.Whole.{WholeOf}
use Rattle.sizes.specs.Opened.{Opened}

-- stores of the same lengths
pub stores-kept : {s d te tg l d' te' tg' l' : List ℕ} → Stores s d te tg l → length d' ≡ length d → length te' ≡ length te
    → length tg' ≡ length tg → length l' ≡ length l → Stores s d' te' tg' l'
stores-kept {s} k a b c e =
    record {
      tables =
          record {
            durations_long = a ∙ k.tables.durations_long;
            resources_long = b ∙ k.tables.resources_long;
            groups_long = room-kept s c k.tables.groups_long;
          };
      list_long = e ∙ k.list_long;
    }

-- the instance of an accepted file is valid
pub accepted-instance : {s d te tg : List ℕ} {h : Head} → Accepted s d te tg h → ValidInstance (instance_of s d te tg h)
accepted-instance {s} a = (gives-instance s).known _ _ a.parsed

-- the duration of an event in the table
duration-in : {T R : ℕ} (d t : List ℕ) (n e : ℕ) → Each (EventIn T R) (events_of d t n) → e < n → get_or d e 0 ≤ T
unfolding events_of
duration-in d t zero e a h = elim (not-suc-le-zero h) [ ]
duration-in {T} d t (suc n) e a h =
    ⊎_elim (λ (k : e ≡ n). rw k (each_last (events_of d t n) a).high)
    (λ (l : e < n). duration-in d t n e (each-front (events_of d t n) (record { duration = get_or d n 0; resources = row_at t n } ∷ []) a) l)
    (eq-or-lt_of_le (le_of_suc-le-suc h))

module _ {s d te tg list : List ℕ} {h : Head} {B : ℕ} (o : Opened s d te tg list h B) where
  -- the table of users can be filled
  pub opened_rows : EventRows te h.events
  opened_rows = known_rows o.accepted o.stores.tables.resources_long

  module _ {us : List ℕ} (f : Filled us (users_in te h.events)) where
    pub opened_users : Users us (events_of d te h.events)
    opened_users = record { each = λ r. (f.each r).count ∙ ap length (sym (users-in d te h.events r)) }

    pub opened_begun : Begun us d h
    opened_begun =
        let z = o.accepted.sizes in
        record {
          times_low = z.times_low;
          times_high = z.times_high;
          events = z.events_high;
          resources = z.resources_high;
          table_long = f.long;
          durations_long = o.stores.tables.durations_long;
          few = (filled_rows te h.events f z.events_high).count;
          short = λ e k. duration-in d te h.events e o.accepted.events k;
        }

    pub opened_tabled : Tabled s d te us tg h
    opened_tabled = record { accepted = o.accepted; filled = f }

    pub opened_walkable : {before : Size} {store : List ℕ} {cols : ℕ} → Within 2147483648 before → length store ≡ 34816 → cols ≡ B + 1
        → Walkable s d us tg list store h cols before
    opened_walkable w l k =
        record {
          resources = te;
          tabled = opened_tabled;
          durations_long = o.stores.tables.durations_long;
          groups_long = o.stores.tables.groups_long;
          list_long = o.stores.list_long;
          store_long = l;
          columns = omega (arith, o.bound);
          within = w;
        }

    -- with what stands before the constraints
    pub opened_whole : {before : Size} {r : Total} → before ≡ blocks_size h (events_of d te h.events)
        → TotalOf s d te tg h (B + 1) before r
        → WholeOf (instance_of s d te tg h) B r
    unfolding whole_size before_size blocks_size tail_of
    opened_whole {before} {r} e t =
        let few = o.accepted.constraints_high in
        let E = length-events d te h.events in
        record {
          formula = t.formula ∙ rw (e, E, o.accepted.constraints);
          tail = t.tail ∙ rw o.accepted.constraints;
          within = within_more (omega arith) t.within.formula;
          tail_within = within_more (omega arith) t.within.tail;
        }
