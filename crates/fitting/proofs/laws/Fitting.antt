-- The counted lists of a constraint of an accepted file can be filled, and are those of the instance.
use mathlib.Core.Path.{◌≡◌, sym, ap, fun_ext, ◌∙◌}
use mathlib.Core.List.{List}
use Prim.Native.Nat.{ℕ, ◌*◌, ◌≤◌}
use native.Mathlib.Omega.{arith}
use lib.ListN.{length}
use Rattle.scope.specs.Kinds.{Kind, Constraint, duration_of, users, group_at, counted_of}
use Rattle.tables.specs.Rows.{rows, events_of}
use Rattle.tables.specs.Room.{group_room}
use Rattle.constraint.specs.declared.kinds.Head.{Head}
use Rattle.constraint.specs.Answers.{counts_in}
use Rattle.constraint.proofs.laws.Bounds.{bounds-right}
use Rattle.instance.specs.Answers.{head_start}
use Rattle.instance.specs.Laws.{Accepted, ConstraintOf}
use Rattle.user_table.specs.Users.{users_in}
use Rattle.user_table.proofs.laws.Users.{users-in}
use Rattle.user_table.specs.Filled.{Filled, users_at}
use Rattle.user_table.proofs.laws.Filled.{filled_users, filled_rows}
use Rattle.literals.specs.Tables.{group_in, duration_in}
use Rattle.literals.proofs.laws.Tables.{duration-in}
use Rattle.list_nodes.specs.Stored.{Fits, counted_in}
use Rattle.fitting.proofs.laws.Known.{known_groups}
use Rattle.fitting.proofs.laws.Lists.{lists-shape, lists_reached, lists_few, lists_some, short-lists}

module _ {s d te tg us : List ℕ} {h : Head} (a : Accepted s d te tg h) (f : Filled us (users_in te h.events)) where
  -- what a kind counts, by the tables
  pub known_counted : (k : Kind)
      → counted_of h.times (duration_of (events_of d te h.events)) (λ r. users r (events_of d te h.events)) (group_at (rows tg h.groups)) k
      ≡ counted_in d (users_at us) tg h k
  known_counted k =
      let n : ◌≡◌ {A = ℕ → ℕ} (duration_of (events_of d te h.events)) (duration_in h.events d) =
      fun_ext (duration-in d te h.events) in
      let e : ◌≡◌ {A = ℕ → List ℕ} (λ r. users r (events_of d te h.events)) (users_at us) =
      fun_ext (λ r. users-in d te h.events r ∙ sym (filled_users te h.events f r)) in
      ap (λ (m : ℕ → ℕ). counted_of h.times m (λ r. users r (events_of d te h.events)) (group_at (rows tg h.groups)) k) n
      ∙ ap (λ (u : ℕ → List ℕ). counted_of h.times (duration_in h.events d) u (group_at (rows tg h.groups)) k) e

  module _ {c : Constraint} (v : ConstraintOf (counts_in h) (head_start d te tg h) c) where
    -- what filling its lists asks for
    pub known_fits : {list : List ℕ} → length d ≡ 1024 → group_room s * 126 ≤ length tg → length list ≡ 2048 → Fits d us tg list h c.kind
    known_fits ld lg ll =
        let k = c.kind in
        let es = events_of d te h.events in
        let u : ℕ → List ℕ = λ r. users r es in
        let gs = group_at (rows tg h.groups) in
        let same = known_counted k in
        let counted = counted_of h.times (duration_of es) u gs k in
        let low = (bounds-right h.times (duration_of es) u gs k).lo in
        record {
          ground = known_groups a lg;
          lasts = ld;
          store = ll;
          range = v.fields;
          rows = filled_rows te h.events f a.sizes.events_high;
          resources = a.sizes.resources_high;
          short =
              rw same at
              (short-lists counted counted.lists v.short
              (lists_reached (lists-shape h.times (duration_of es) u gs k) (rw low v.reached)));
        }

    -- and they are few, but there is one
    pub known_few : length (counted_in d (users_at us) tg h c.kind).lists ≤ 125
    known_few =
        omega (arith, a.sizes.times_high, lists_few (lists-shape h.times (duration_in h.events d) (users_at us) (group_in h.groups tg) c.kind) a.sizes.times_low)

    pub known_some : 1 ≤ length (counted_in d (users_at us) tg h c.kind).lists
    known_some = lists_some (lists-shape h.times (duration_in h.events d) (users_at us) (group_in h.groups tg) c.kind) a.sizes.times_low
