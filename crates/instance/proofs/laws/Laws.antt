-- What an accepted file is known to keep: its sizes, its tables, the walk over its constraints, each of them valid: laws.
use Prim.Native.Nat.{ℕ, ◌+◌, ◌*◌, ◌≤◌, ◌<◌}
use mathlib.Core.Path.{◌≡◌, refl, sym, ap, ◌∙◌, subst}
use mathlib.Core.List.{List, ◌∷◌}
use Rattle.std.proofs.Common.{Result, Ok}
use lib.Dec.{leb}
use lib.ListN.{length, drop}
use native.Mathlib.Omega.{arith}
use borrow.Author.Tests.{leb-true}
use Rattle.scope.specs.Parsed.{Parsed, got, refused, and_then, unless, repeat}
use Rattle.scope.specs.Parsed.{answered, refusal}
use Rattle.scope.specs.Operations.{read_of}
use Rattle.scope.specs.declared.refusal.Refusal.{Refusal}
use Rattle.scope.specs.Number.{limited}
use Rattle.scope.specs.Kinds.{Kind, Constraint}
use Rattle.scope.specs.Instance.{Counts, Instance, counts_of, distinct, ordered, ended, parse}
use Rattle.parsing.specs.Parsing.{list_of}
use Rattle.parsing.proofs.laws.Parsing.{and_then-got, unless-got, repeat-length, repeat-also}
use Rattle.parsing.proofs.laws.Each.{each-head, each-drop, repeat-each}
use Rattle.parsing.proofs.laws.Numbers.{limited-got, repeat-got}
use Rattle.tables.specs.Rows.{RowsIn}
use Rattle.tables.proofs.laws.Laws.{length_rows, length-events}
use Rattle.tables.proofs.laws.Reading.{events-in, groups-in}
use Rattle.tables.specs.Room.{group_room}
use Rattle.tables.proofs.laws.Room.{room_most}
use Rattle.constraint.specs.declared.kinds.Constraint as decl
use Rattle.constraint.specs.declared.kinds.Head.{Head}
use Rattle.constraint.specs.Answers.{counts_in, said_next, constraint_of}
use Rattle.constraint.specs.Bounds.{low_of, high_of}
use Rattle.constraint.specs.Decoded.{decoded_at, ended_by, checked_at, longest_of}
use Rattle.constraint.proofs.laws.Decoded.{constraint-checked}
use Rattle.constraint.proofs.laws.Valid.{decoded-got}
use Rattle.constraint.specs.Walk.{Walk, constraints_in}
use Rattle.constraint.proofs.laws.Walk.{walk_start, walk_read}
use Rattle.instance.specs.Answers.{head_start, constraints_of, instance_of, said_file}
use Rattle.constraint_end.specs.Ends.{end_of, whole_at}
use Rattle.constraint_end.proofs.laws.Ends.{whole-got}
use Rattle.instance.specs.File.{Start, with_constraints, constraint_in, tables_at}
use Rattle.instance.proofs.laws.File.{rest_at, parse-parts}
use Rattle.instance.proofs.laws.Start.{StartIn, tables-got}
use Rattle.instance.specs.Laws.{ConstraintOf, Accepted}

-- the counts of an instance without its constraints
abbrev pub counts_start : Start → Counts
counts_start t = counts_of t.times t.resources t.events t.groups

-- a constraint that was read at an offset
pub record ConstraintAt (t : Start) (s : List ℕ) (at : ℕ) (c : Constraint) (end : ℕ) : Type 0 where
  pub decoded : decoded_at (counts_start t) s at ≡ got c end
  pub valid : ConstraintOf (counts_start t) t c
  pub ahead : at ≤ end
  pub inside : end ≤ length s

record Passed (n : ℕ) (k : Kind) : Type 0 where
  short : n ≤ 255
  ordered : low_of k ≤ high_of k
  reached : low_of k ≤ n

ended-got : (at n weight : ℕ) (k : Kind) (end : ℕ) {c : Constraint} {next : ℕ}
    → ended at (distinct k) (ordered k) (low_of k) (high_of k) n weight k end ≡ got c next
    → Passed n k × (◌≡◌ {A = Parsed Constraint} (got (record { weight = weight; kind = k }) end) (got c next))
unfolding ended
ended-got at n weight k end e =
    let reaches : Parsed Constraint = unless (leb (low_of k) n) 5 at (got (record { weight = weight; kind = k }) end) in
    let bounded = unless (leb (low_of k) (high_of k)) 5 at reaches in
    let inOrder = unless (ordered k) 5 at bounded in
    let a = unless-got (leb n 255) 4 at (unless (distinct k) 19 at inOrder) e in
    let t = unless-got (distinct k) 19 at inOrder a.rest in
    let o = unless-got (ordered k) 5 at bounded t.rest in
    let b = unless-got (leb (low_of k) (high_of k)) 5 at reaches o.rest in
    let d = unless-got (leb (low_of k) n) 5 at (got (record { weight = weight; kind = k }) end) b.rest in (
      record {
        short = leb-true n 255 a.test;
        ordered = leb-true (low_of k) (high_of k) b.test;
        reached = leb-true (low_of k) n d.test;
      },
      d.rest,
    )

pub constraint-got : (t : Start) (s : List ℕ) (at : ℕ) {c : Constraint} {end : ℕ} → constraint_in t s at ≡ got c end → ConstraintAt t s at c end
unfolding checked_at
constraint-got t s at {c} {end} e =
    let len : Kind → ℕ = longest_of t.times t.events t.groups in
    let f = sym (constraint-checked t.times t.resources t.events t.groups s at) ∙ e in
    let p = and_then-got (decoded_at (counts_start t) s at) (ended_by len at) f in
    let q = ended-got at (len p.value.kind) p.value.weight p.value.kind p.next p.rest in
    let same : p.value ≡ c = cc q.1 in
    let last : p.next ≡ end = cc q.1 in
    let d = decoded-got (counts_start t) s at p.first in
    let v : ConstraintOf (counts_start t) t p.value =
    record { weight = d.weight; fields = d.fields; short = q.0.short; ordered = q.0.ordered; reached = q.0.reached }
    in
    record {
      decoded = p.first ∙ q.1;
      valid = subst (ConstraintOf (counts_start t) t) same v;
      ahead = omega (arith, d.ahead);
      inside = omega (arith, d.inside);
    }

-- the instance that was parsed, in its parts
record Parts (s : List ℕ) (i : Instance) (end : ℕ) : Type 0 where
  start : Start
  same : i ≡ with_constraints start i.constraints
  begins : StartIn s start
  count : length i.constraints ≤ 4096
  last : end ≡ length s
  some : 0 < end

parse-got : (s : List ℕ) {i : Instance} {end : ℕ} → parse s ≡ got i end → Parts s i end
unfolding rest_at
parse-got s {i} {end} e =
    let a = and_then-got (tables_at s) (rest_at s) (sym (parse-parts s) ∙ e) in
    let t = a.value in
    let b =
    and_then-got (limited 0 4096 s a.next)
    (λ count next. and_then (whole_at s count (constraint_in t s) next) (λ cs end. got (with_constraints t cs) end))
    a.rest
    in
    let w =
    and_then-got (whole_at s b.value (constraint_in t s) b.next) (λ cs end. got (with_constraints t cs) end) b.rest
    in
    let l = whole-got s b.value (constraint_in t s) b.next w.first in
    let x = tables-got s a.first in
    let y = limited-got 0 4096 s a.next b.first in
    let z =
    repeat-got s b.value (constraint_in t s) b.next
    (λ at c next e. ((constraint-got t s at e).ahead, (constraint-got t s at e).inside))
    l.list
    in
    let whole : with_constraints t w.value ≡ i = cc w.rest in
    let last : w.next ≡ end = cc w.rest in
    let cs : w.value ≡ i.constraints = ap (λ (i : Instance). i.constraints) whole in
    record {
      start = t;
      same = sym whole ∙ ap (with_constraints t) cs;
      begins = x.start;
      count = omega (arith, y.high, repeat-length b.value (constraint_in t s) b.next l.list, ap length cs);
      last = omega (arith, l.past, z.inside y.inside);
      some = omega (arith, y.ahead, z.ahead);
    }

-- a list that ends past the first byte was read
end-got : {A : Type 0} (p : Parsed (List A)) → 0 < end_of p → p ≡ got (list_of p) (end_of p)
end-got (got xs end) h = refl
end-got (refused k v) h = let z : ⊥ = omega arith in elim z [ ]

-- an instance without its constraints
abbrev without_constraints : Instance → Start
without_constraints i = record { times = i.times; resources = i.resources; events = i.events; groups = i.groups }

module _ (s d te tg : List ℕ) (h : Head) (e : said_file s d te tg (Ok h) ≡ parse s) where
  abbrev start : Start
  start = head_start d te tg h

  parts : Parts s (instance_of s d te tg h) (end_of (constraints_of s d te tg h))
  parts = parse-got s (sym e)

  starts : StartIn s start
  starts =
      let same : start ≡ parts.start = ap without_constraints parts.same in
      subst (StartIn s) (sym same) parts.begins

  counts_are : counts_start start ≡ counts_in h
  counts_are = rw (length-events d te h.events, length_rows tg h.groups)

  listed : repeat h.constraints (constraint_in start s) h.start ≡ got (instance_of s d te tg h).constraints (length s)
  unfolding constraints_of
  listed = end-got (constraints_of s d te tg h) parts.some ∙ ap (got (instance_of s d te tg h).constraints) parts.last

  decoded : repeat h.constraints (decoded_at (counts_in h) s) h.start ≡ got (instance_of s d te tg h).constraints (length s)
  decoded =
      repeat-also h.constraints (constraint_in start s) (decoded_at (counts_in h) s) h.start
      (λ at c next f. rw counts_are at (constraint-got start s at f).decoded)
      listed

  same : (instance_of s d te tg h).constraints ≡ constraints_in h s
  unfolding constraints_in
  same = rw decoded

  pub accepted : Accepted s d te tg h
  accepted =
      let n = repeat-length h.constraints (constraint_in start s) h.start listed in
      let E = length-events d te h.events in
      let valid =
      repeat-each (ConstraintOf (counts_in h) start) h.constraints (constraint_in start s) h.start
      (λ at c next f. rw counts_are at (constraint-got start s at f).valid)
      listed
      in
      record {
        parsed = sym e ∙ ap (got (instance_of s d te tg h)) parts.last;
        sizes = rw E at starts.sizes;
        groups_high = omega (arith, starts.group_count, length_rows tg h.groups);
        constraints_high = omega (arith, parts.count);
        events = starts.events;
        groups = starts.groups;
        constraints = same;
        count = rw (← same) n;
        walk = walk_start (counts_in h) s h.constraints h.start (constraints_in h s) (rw (← same) decoded);
        valid = rw (← same) valid;
      }

-- the rows of the tables, where these are as long as they have to be
module _ {s d te tg : List ℕ} {h : Head} (a : Accepted s d te tg h) where
  pub event-rows : length te ≡ 129024 → RowsIn te h.events
  event-rows l = events-in d te h.events (omega (arith, a.sizes.resources_high)) (omega (arith, a.sizes.events_high)) a.events

  pub group-rows : group_room s * 126 ≤ length tg → RowsIn tg h.groups
  group-rows l = groups-in tg h.groups a.sizes.times_high (omega (arith, a.groups_high)) a.groups

  -- whatever the file, they are at most 2,048
  pub groups_most : h.groups ≤ 2048
  groups_most = omega (arith, a.groups_high, room_most s)

  -- a turn of the walk, where the call answered x with the store l: the next constraint, and that it is valid
  pub record NextOf (i next : ℕ) (c : Constraint) : Type 0 where
    pub whole : drop i (constraints_in h s) ≡ c ∷ drop (i + 1) (constraints_in h s)
    pub walk : Walk (counts_in h) s h.constraints (i + 1) next (constraints_in h s)
    pub valid : ConstraintOf (counts_in h) (head_start d te tg h) c

  pub accepted_next : {i at : ℕ} (l : List ℕ) (x : Result (decl.Constraint × ℕ) Refusal) {c : decl.Constraint} {next : ℕ}
      → Walk (counts_in h) s h.constraints i at (constraints_in h s)
      → i < h.constraints
      → said_next l x ≡ decoded_at (counts_in h) s at
      → x ≡ Ok (c, next)
      → NextOf i next (constraint_of l c)
  accepted_next {i} {at} l x {c} {next} w k e t =
      let r = walk_read w k l x e t in
      record { whole = r.whole; walk = r.walk; valid = each-head (rw r.whole at (each-drop i a.valid)) }

-- what the operation of reading answers for it
pub accepted-answer : {s d te tg : List ℕ} {h : Head}
    → Accepted s d te tg h
    → answered
    (record {
      times = h.times;
      events = h.events;
      resources = h.resources;
      groups = h.groups;
      constraints = h.constraints;
    })
    ≡ read_of s
unfolding read_of
accepted-answer {s} {d} {te} {tg} {h} a =
    rw (a.parsed, a.constraints, a.count, length-events d te h.events, length_rows tg h.groups)

pub refused-answer : (s : List ℕ) {k v : ℕ} → refused k v ≡ parse s → refusal k v ≡ read_of s
unfolding read_of
refused-answer s e = rw (← e)
