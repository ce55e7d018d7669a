-- The walk over the constraints of a file: what it is lent, and what is known after each of them: laws.
use Prim.Native.Nat.{ℕ, ◌+◌, ◌*◌, ◌≤◌, ◌<◌}
use mathlib.Core.Path.{◌≡◌, sym, ◌∙◌}
use mathlib.Core.List.{List}
use native.Mathlib.Omega.{arith}
use lib.ListN.{length, drop}
use Rattle.scope.specs.Kinds.{Constraint}
use Rattle.tables.specs.Room.{group_room}
use Rattle.constraint.specs.declared.kinds.Constraint as decl
use Rattle.constraint.specs.declared.kinds.Head.{Head}
use Rattle.scope.specs.declared.refusal.Refusal.{Refusal}
use Rattle.std.proofs.Common.{Result, Ok}
use Rattle.constraint.specs.Answers.{counts_in, said_next, constraint_of}
use Rattle.constraint.specs.Decoded.{decoded_at}
use Rattle.constraint.specs.Walk.{Walk, constraints_in}
use Rattle.constraint.proofs.laws.Walk.{walk_end}
use Rattle.instance.specs.Answers.{instance_of}
use Rattle.instance.proofs.laws.Laws.{NextOf, accepted_next}
use Rattle.user_table.specs.Filled.{users_at}
use Rattle.list_nodes.specs.Stored.{counted_in}
use Rattle.fitting.proofs.laws.Fitting.{known_counted, known_fits, known_few, known_some}
use Rattle.sizing.specs.declared.Size.{Size}
use Rattle.sizing.specs.Sums.{none, sum, Within}
use Rattle.sizing.proofs.laws.Sums.{within_more, within_none, within-sum, sum-none, sum-assoc}
use Rattle.sizing.proofs.laws.Limits.{tail_within}
use Rattle.measuring.specs.Whole.{constraint_size, constraints_size, tail_after}
use Rattle.part_sizes.specs.declared.walk.Total.{Total}
use Rattle.part_sizes.specs.Sizable.{Sizable, CountedSized}
use Rattle.part_sizes.specs.Walked.{Tabled, Walkable, Addable, added, TotalWithin, TotalOf}

-- stores of the same lengths change nothing
pub walkable-kept : {s d us tg list store list' store' : List ℕ} {h : Head} {cols : ℕ} {before : Size}
    → Walkable s d us tg list store h cols before
    → length list' ≡ length list
    → length store' ≡ length store
    → Walkable s d us tg list' store' h cols before
walkable-kept w e f =
    record {
      resources = w.resources;
      tabled = w.tabled;
      durations_long = w.durations_long;
      groups_long = w.groups_long;
      list_long = e ∙ w.list_long;
      store_long = f ∙ w.store_long;
      columns = w.columns;
      within = w.within;
    }

module _ {k cols : ℕ} {t : Total} {one : Size} (l : TotalWithin k t) (c : cols ≤ 4096) (w : Within 268435456 one) (u : one.units ≤ 31875) where
  formula_more : Within (2147483648 + (k + 1) * 268435456) (sum t.formula one)
  formula_more = within_more (omega arith) (within-sum (2147483648 + k * 268435456) 268435456 t.formula one l.formula w)

  pub total_addable : k ≤ 4096 → Addable t cols one
  total_addable h =
      record {
        columns = c;
        units = omega arith;
        tail = within_more (omega arith) l.tail;
        formula = within_more (omega arith) formula_more;
      }

  -- the tail grows by at most 2 ^ 31
  pub total_within : (x : ℕ) {r : Total} → r ≡ added cols t one x → TotalWithin (k + 1) r
  total_within x q =
      record {
        formula = rw q formula_more;
        tail = rw q (within_more (omega arith) (tail_within (k * 2147483648) cols t.tail one.units x c (omega arith) l.tail));
      }

pub total-start : {t : Total} → Within 2147483648 t.formula → t.tail ≡ none → TotalWithin 0 t
total-start w e = record { formula = within_more (omega arith) w; tail = rw e (within_none 0) }

-- after k of the constraints, with the others from an offset on
pub record Part (s d te tg : List ℕ) (h : Head) (cols : ℕ) (before : Size) (k at : ℕ) (t : Total) : Type 0 where
  pub walk : Walk (counts_in h) s h.constraints k at (constraints_in h s)
  pub formula : sum t.formula (constraints_size (instance_of s d te tg h) (drop k (constraints_in h s)))
      ≡ sum before (constraints_size (instance_of s d te tg h) (constraints_in h s))
  pub tail : tail_after (instance_of s d te tg h) cols t.tail (drop k (constraints_in h s))
      ≡ tail_after (instance_of s d te tg h) cols none (constraints_in h s)

module _ {s d te us tg : List ℕ} {h : Head} (a : Tabled s d te us tg h) {cols : ℕ} {before : Size} where
  -- at the start
  pub part_start : {t : Total} → t.formula ≡ before → t.tail ≡ none → Part s d te tg h cols before 0 h.start t
  part_start e f = record { walk = a.accepted.walk; formula = rw e; tail = rw f }

  module _ {k at : ℕ} {t : Total} (p : Part s d te tg h cols before k at t) where
    -- constraint number k is next, where the call answered x with the store l
    pub part_read : (l : List ℕ) (x : Result (decl.Constraint × ℕ) Refusal) {c : decl.Constraint} {next : ℕ} → k < h.constraints
        → said_next l x ≡ decoded_at (counts_in h) s at → x ≡ Ok (c, next) → NextOf a.accepted k next (constraint_of l c)
    part_read l x b e q = accepted_next a.accepted l x p.walk b e q

    module _ {next : ℕ} {c : Constraint} (n : NextOf a.accepted k next c) where
      -- it can be sized
      pub part_sizable : {list : List ℕ} → length d ≡ 1024 → group_room s * 126 ≤ length tg → length list ≡ 2048 → Sizable d us tg list h c
      part_sizable ld lg ll =
          record {
            fits = known_fits a.accepted a.filled n.valid ld lg ll;
            weight = n.valid.weight;
            ordered = n.valid.ordered;
            few = known_few a.accepted a.filled n.valid;
            some = known_some a.accepted a.filled n.valid;
          }

      -- and was
      module _ {one : Size} (z : CountedSized c.weight (counted_in d (users_at us) tg h c.kind) one) where
        sized : one ≡ constraint_size (instance_of s d te tg h) c
        sized = rw (known_counted a.accepted a.filled c.kind) z.eq

        pub part_next : {r : Total} → r ≡ added cols t one c.weight → Part s d te tg h cols before (k + 1) next r
        unfolding constraints_size tail_after
        part_next q =
            let i = instance_of s d te tg h in
            record {
              walk = n.walk;
              formula =
                  rw (q, sized)
                  (sum-assoc t.formula (constraint_size i c) (constraints_size i (drop (k + 1) (constraints_in h s)))
                  ∙ rw n.whole at p.formula);
              tail = rw (q, sized) (rw n.whole at p.tail);
            }

    -- at the end
    pub part_end : h.constraints ≤ k → TotalWithin h.constraints t → TotalOf s d te tg h cols before t
    unfolding constraints_size tail_after
    part_end b l =
        let e = walk_end p.walk b in
        record {
          formula = sym (sum-none t.formula) ∙ rw e at p.formula;
          tail = rw e at p.tail;
          within = l;
        }
