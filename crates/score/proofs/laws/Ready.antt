-- What is known of an accepted file's tables where a timetable of it is scored: laws.
use Prim.Native.Nat.{ℕ, zero, suc, ◌*◌, ◌<◌, ◌≤◌}
use mathlib.Core.Path.{◌≡◌, ap, ◌∙◌}
use mathlib.Core.List.{List, []}
use mathlib.Core.Logic.{⊎_elim}
use lib.ListN.{length, get_or, get_or-append}
use lib.Seq.{get_or_at}
use native.Mathlib.Omega.{arith}
use native.Mathlib.Nat.{sub-zero, le_of_suc-le-suc, eq-or-lt_of_le, not-suc-le-zero}
use Rattle.scope.specs.Parsed.{got, repeat}
use Rattle.scope.specs.Kinds.{Event}
use Rattle.scope.specs.Instance.{Instance}
use Rattle.parsing.specs.Numbers.{Ascending, none, more}
use Rattle.tables.specs.Rows.{row_at, events_of}
use Rattle.tables.specs.Room.{group_room}
use Rattle.tables.proofs.laws.Laws.{length-events}
use Rattle.tables.proofs.laws.Reading.{event-row, group-ascends}
use Rattle.constraint.specs.declared.kinds.Head.{Head}
use Rattle.constraint.specs.Answers.{counts_in}
use Rattle.constraint.specs.Decoded.{decoded_at}
use Rattle.instance.specs.Answers.{instance_of}
use Rattle.instance.specs.Laws.{Accepted}
use Rattle.instance.proofs.laws.Laws.{event-rows, group-rows, groups_most}
use Rattle.timetable.specs.Right.{Lasts, no_event}
use Rattle.timetable.specs.Uses.{Countable}
use Rattle.deviation.specs.Charge as charge
use Rattle.score.specs.Amounts.{list_of, decoded_of, Walkable}
use Rattle.score.specs.Ready.{Scorable}

-- up to a higher number
ascending-up : (n m : ℕ) {before : ℕ} {l : List ℕ} → n ≤ m → Ascending n before l → Ascending m before l
ascending-up n m h none = none
ascending-up n m h (more a b r) = more a (omega arith) (ascending-up n m h r)

-- event e of a table
event-at : (d te : List ℕ) (n e : ℕ) → e < n → get_or (events_of d te n) e no_event ≡ record { duration = get_or d e 0; resources = row_at te e }
unfolding events_of
event-at d te zero e h = elim (not-suc-le-zero h) [ ]
event-at d te (suc n) e h =
    ⊎_elim
    (λ (k : e ≡ n). rw k (get_or_at (events_of d te n) (record { duration = get_or d n 0; resources = row_at te n }) [] no_event n (length-events d te n)))
    (λ (l : e < n). get_or-append (events_of d te n) _ no_event e (rw length-events l) ∙ event-at d te n e l)
    (eq-or-lt_of_le (le_of_suc-le-suc h))

-- an instance whose events are in tables has the durations of the table
pub tables-last : (d te : List ℕ) (i : Instance) (T n : ℕ) → i.times ≡ T → i.events ≡ events_of d te n → Lasts i T n d
tables-last d te i T n t e =
    record {
      times = t;
      count = rw e (length-events d te n);
      durations = λ k l. rw e (ap (λ (v : Event). v.duration) (event-at d te n k l));
    }

module _ {s d te tg : List ℕ} {h : Head} (a : Accepted s d te tg h) where
  -- its constraints are those that the walk decodes
  pub accepted_whole : repeat h.constraints (decoded_at (counts_in h) s) h.start ≡ got (instance_of s d te tg h).constraints (length s)
  accepted_whole = rw a.constraints (rw sub-zero at a.walk.left)

  pub accepted_decoded : decoded_of s h ≡ (instance_of s d te tg h).constraints
  unfolding decoded_of
  accepted_decoded = ap list_of accepted_whole

  pub scorable : (b l : List ℕ) → length te ≡ 129024 → group_room s * 126 ≤ length tg → length l ≡ 2048 → length b ≡ 2 * (h.events * h.times) → Scorable s b te tg l h
  scorable b l p q r t =
      record {
        sizes = a.sizes;
        groups_high = groups_most a;
        constraints_high = a.constraints_high;
        table = t;
        event-rows = event-rows a p;
        resources = λ e k. ascending-up h.resources 99 a.sizes.resources_high (event-row d te h.events e a.events k);
        group-rows = group-rows a q;
        times = λ g k. group-ascends tg h.groups g a.groups k;
        room = r;
        whole = rw accepted_decoded accepted_whole;
      }

module _ {s b te tg l : List ℕ} {h : Head} (z : Scorable s b te tg l h) where
  -- the uses can be counted, and then the constraints charged
  pub scorable_counts : (u : List ℕ) → length u ≡ 12375 → Countable h.times u te b h.events
  scorable_counts u k =
      record {
        long = k;
        times = z.sizes.times_high;
        events = z.sizes.events_high;
        taken = omega (arith, z.table);
        rows = z.event-rows.each;
        ascending = z.resources;
      }

  pub scorable_walk : (u x : List ℕ) → length u ≡ 12375 → length x ≡ 12375 → Walkable s h b u x tg l
  scorable_walk u x p q =
      let sizes : charge.SizesIn (counts_in h) =
      record { times = z.sizes.times_high; events = z.sizes.events_high; resources = z.sizes.resources_high }
      in
      record {
        count = z.constraints_high;
        events = omega (arith, z.sizes.events_high);
        groups = z.groups_high;
        room = z.room;
        whole = z.whole;
        sheet =
            record {
              bytes = record { sizes = sizes; room = z.table };
              uses = record { sizes = sizes; room = p };
              used = record { sizes = sizes; room = q };
              groups = record { rows = z.group-rows.each; ascending = z.times };
            };
      }
