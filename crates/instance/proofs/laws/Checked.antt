-- The constraints as the reader checks them are those of the instance.
use Prim.Native.Nat.{ℕ, ◌*◌, ◌≤◌, ◌<◌}
use mathlib.Core.Path.{◌≡◌, refl, sym, ap, ◌∙◌}
use mathlib.Core.List.{List}
use Rattle.std.proofs.Common.{Ok, Err}
use lib.ListN.{length}
use native.Mathlib.Omega.{arith}
use Rattle.scope.specs.Parsed.{Parsed, got, refused, and_then}
use Rattle.scope.specs.Kinds.{Constraint, users}
use Rattle.scope.specs.Number.{limited}
use Rattle.scope.specs.Instance.{Instance, counts_of, parse}
use Rattle.scope.specs.Answers.{refused_by}
use Rattle.scope.specs.declared.refusal.Refusal.{Refusal}
use Rattle.number.proofs.laws.Sequence.{step, stop}
use Rattle.tables.specs.Rows.{rows, events_of}
use Rattle.tables.proofs.laws.Laws.{length_rows, length-events}
use Rattle.tables.proofs.laws.Reading.{event-row, events-in, groups-in}
use Rattle.tables.specs.Room.{group_room}
use Rattle.tables.proofs.laws.Room.{room_most}
use Rattle.tables.specs.Occurrences.{Counted}
use Rattle.tables.proofs.laws.Occurrences.{users-counted}
use Rattle.constraint.specs.declared.kinds.Head.{Head}
use Rattle.constraint.specs.Answers.{counts_in}
use Rattle.constraint.specs.Decoded.{longest_of}
use Rattle.constraint.proofs.laws.Decoded.{constraint-checked}
use Rattle.instance.specs.declared.reader.Sizes.{Sizes}
use Rattle.instance.specs.Answers.{start_of, head_start, head_of, constraints_of, instance_of}
use Rattle.constraint_end.specs.Ends.{ends, end_of, whole_at}
use Rattle.constraint_end.proofs.laws.Ends.{ends-got, ends-of-refused, whole_same, whole-got, whole_refused, whole_left, whole_end}
use Rattle.instance.specs.File.{with_constraints, constraint_in, tables_at}
use Rattle.instance.proofs.laws.File.{rest_at, parse-parts}
use Rattle.constraint_end.proofs.laws.Length.{list_length_lem}
use Rattle.constraint_end.specs.Ready.{Lent, length_by, checked_by, checked_all, checked_whole, by_counts, by_rows}
use Rattle.constraint_end.proofs.laws.Ready.{checked-alike, checked_by-same}
use Rattle.instance.proofs.laws.Start.{StartIn, tables_start}

-- the walk by counts gives the whole by rows, where the counts are those of the rows
module _ (loads te groups : List ℕ) (h : Head) (s : List ℕ) (c : Counted te h.events loads) where
  pub counted_refused : (f : Refusal)
      → refused_by f ≡ ends (checked_all (by_counts loads) groups h s)
      → refused_by f ≡ ends (checked_whole (by_rows te h.events) groups h s)
  counted_refused f e = whole_refused s h.constraints _ _ h.start (Err f) e (checked_by-same _ _ groups h s c.each) refl

  pub counted_left : {end : ℕ}
      → got 0 end ≡ ends (checked_all (by_counts loads) groups h s)
      → end < length s
      → refused 6 end ≡ ends (checked_whole (by_rows te h.events) groups h s)
  counted_left {end} e l = whole_left s h.constraints _ _ h.start (Ok end) e (checked_by-same _ _ groups h s c.each) refl l

  pub counted_end : {end : ℕ}
      → got 0 end ≡ ends (checked_all (by_counts loads) groups h s)
      → length s ≤ end
      → got 0 end ≡ ends (checked_whole (by_rows te h.events) groups h s)
  counted_end {end} e l = whole_end s h.constraints _ _ h.start (Ok end) e (checked_by-same _ _ groups h s c.each) refl l

module _ (s d te tg : List ℕ) (h : Head) (i : StartIn s (head_start d te tg h)) where
  -- the counts are those of the tables
  counts_are : counts_of h.times h.resources (events_of d te h.events) (rows tg h.groups) ≡ counts_in h
  counts_are = rw (length-events d te h.events, length_rows tg h.groups)

  -- how many events use a resource, by the rows of the events
  used_right : (r : ℕ) → by_rows te h.events r ≡ length (users r (events_of d te h.events))
  used_right r = sym (users-counted r h.resources d te h.events (λ g k. event-row d te h.events g i.events k))

  checked_right : (at : ℕ) → checked_by (by_rows te h.events) tg h s at ≡ constraint_in (head_start d te tg h) s at
  checked_right at =
      let es = events_of d te h.events in
      let gs = rows tg h.groups in
      sym
      (constraint-checked h.times h.resources es gs s at
      ∙ rw counts_are
      (checked-alike (counts_in h) (longest_of h.times es gs) (length_by (by_rows te h.events) tg h) s at
      (λ k. list_length_lem h.times (by_rows te h.events) es gs k i.sizes.times_low (omega (arith, i.sizes.times_high)) used_right)))

  -- the constraints of the instance, up to the file's end
  abbrev whole_part : Parsed (List Constraint)
  whole_part = whole_at s h.constraints (constraint_in (head_start d te tg h) s) h.start

  -- the whole walk, where it answered x
  module _ {x : Parsed ℕ} (e : x ≡ ends (checked_whole (by_rows te h.events) tg h s)) where
    here : ends whole_part ≡ x
    here = sym (e ∙ ap ends (whole_same s h.constraints _ (constraint_in (head_start d te tg h) s) h.start checked_right))

    pub walk_stopped : {k v : ℕ} → x ≡ refused k v → whole_part ≡ refused k v
    walk_stopped t = ends-of-refused whole_part (here ∙ t)

    pub walk_accepted : {v end : ℕ}
        → x ≡ got v end
        → got (instance_of s d te tg h) (end_of (constraints_of s d te tg h))
        ≡ and_then whole_part (λ cs end. got (with_constraints (head_start d te tg h) cs) end)
    unfolding constraints_of
    walk_accepted t =
        let w = ends-got whole_part (here ∙ t) in
        let l = whole-got s h.constraints (constraint_in (head_start d te tg h) s) h.start w in
        rw (w, l.list)

-- the tables of an instance that starts so are fit to be lent to the walk
pub start-lent : (s d te tg list : List ℕ) (h : Head)
    → StartIn s (head_start d te tg h)
    → length te ≡ 129024
    → group_room s * 126 ≤ length tg
    → length list ≡ 2048
    → Lent te tg list h
start-lent s d te tg list h i a b c =
    let z = i.sizes in
    let E = length-events d te h.events in
    let G = length_rows tg h.groups in
    record {
      room = c;
      numbers = (omega (arith, z.resources_high), omega (arith, i.group_count, room_most s), omega (arith, z.events_high));
      events = events-in d te h.events (omega (arith, z.resources_high)) (omega (arith, z.events_high)) i.events;
      rows = groups-in tg h.groups z.times_high (omega (arith, i.group_count)) i.groups;
    }

-- the whole file, where the tables were filled, the constraints counted and walked over
module _ (s d te tg : List ℕ) (w : Sizes) {at : ℕ} (a : got (start_of d te tg w) at ≡ tables_at s) where
  -- no count
  pub rest_uncounted : {k v : ℕ} → refused k v ≡ limited 0 4096 s at → refused k v ≡ parse s
  unfolding rest_at
  rest_uncounted e = rw parse-parts (step _ _ (start_of d te tg w) at _ a (stop _ _ _ _ e))

  module _ {count start : ℕ} (t : got count start ≡ limited 0 4096 s at) where
    -- the rest of the file, from what is left of it
    rest_whole : {r : Parsed Instance}
        → r
        ≡ and_then (whole_at s count (constraint_in (start_of d te tg w) s) start) (λ cs end. got (with_constraints (start_of d te tg w) cs) end)
        → r ≡ parse s
    unfolding rest_at
    rest_whole l = rw parse-parts (step _ _ (start_of d te tg w) at _ a (step _ _ count start _ t l))

    start_in : StartIn s (start_of d te tg w)
    start_in = tables_start s d te tg w a

    pub rest_stopped : {k v : ℕ}
        → refused k v ≡ ends (checked_whole (by_rows te w.events) tg (head_of w count start) s)
        → refused k v ≡ parse s
    rest_stopped q = rest_whole (stop _ _ _ _ (sym (walk_stopped s d te tg (head_of w count start) start_in q refl)))

    pub rest_accepted : {v end : ℕ}
        → got v end ≡ ends (checked_whole (by_rows te w.events) tg (head_of w count start) s)
        → got (instance_of s d te tg (head_of w count start)) (end_of (constraints_of s d te tg (head_of w count start))) ≡ parse s
    rest_accepted q = rest_whole (walk_accepted s d te tg (head_of w count start) start_in q refl)

-- the whole file, where its tables were refused
pub tables-stopped : (s : List ℕ) {k v : ℕ} → refused k v ≡ tables_at s → refused k v ≡ parse s
tables-stopped s e = rw parse-parts (stop _ _ _ _ e)
