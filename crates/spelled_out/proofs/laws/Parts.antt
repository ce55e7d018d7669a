-- What a reading got at an offset, it gets wherever the bytes that it took stand: the parts of an instance file after the times.
use Prim.Native.Nat.{ℕ, zero, suc}
use mathlib.Core.Path.{◌≡◌, refl, sym, ap, ◌∙◌}
use mathlib.Core.Bool.{Bool, true, false}
use mathlib.Core.List.{List, []}
use native.Mathlib.Omega.{arith}
use lib.Dec.{leb}
use Rattle.scope.specs.Parsed.{Parsed, got, refused, and_then, unless, cons, repeat}
use Rattle.scope.specs.Number.{limited, reference, references, listed}
use Rattle.scope.specs.Kinds.{Event, Kind, Constraint, duration_of, users, group_at, counted_of, longest}
use Rattle.scope.specs.Instance.{Fields, a_reference, a_list, a_number, the_kind, fields_read, fields_of, counts_of, distinct, ordered, ended, ended_as, constraint_at, constraints_at, event_at, sizes_at}
use Rattle.scope.specs.SpelledOut.{bytes_from}
use Rattle.parsing.proofs.laws.Parsing.{refused-got, and_then-got}
use Rattle.spelled_out.proofs.laws.Reads.{Reads}
use Rattle.spelled_out.proofs.laws.Local.{Local, local-got, local-and_then, local-cons, local-repeat, local-limited, local-reference}

-- lists, events, sizes, and the fields of a constraint
local-references : (k before n : ℕ) → Local (references k before n)
unfolding references
local-references zero before n = local-got []
local-references (suc k) before n =
    local-and_then (reference before n) (λ v s next. cons v (references k v n s next)) (local-reference before n)
    (λ v. local-cons v (references k v n) (local-references k v n))

pub local-listed : (n : ℕ) → Local (listed n)
unfolding listed
local-listed n = local-and_then (limited 0 n) (λ count s next. references count 0 n s next) (local-limited 0 n) (λ count. local-references count 0 n)

pub local-event : (T R : ℕ) → Local (event_at T R)
unfolding event_at
local-event T R =
    local-and_then (limited 1 T) (λ d s next. and_then (listed R s next) (λ rs end. got (record { duration = d; resources = rs }) end)) (local-limited 1 T)
    (λ d. local-and_then (listed R) (λ rs s end. got (record { duration = d; resources = rs }) end) (local-listed R) (λ rs. local-got _))

pub local-sizes : Local sizes_at
unfolding sizes_at
local-sizes =
    local-and_then (limited 1 1024) (λ E s next. and_then (limited 0 99 s next) (λ R end. got (E, R) end)) (local-limited 1 1024)
    (λ E. local-and_then (limited 0 99) (λ R s end. got (E, R) end) (local-limited 0 99) (λ R. local-got _))

local-fields : (f : Fields) → Local (fields_read f)
unfolding fields_read
local-fields (a_reference n f) = local-and_then (reference 0 n) (λ v s next. fields_read (f v) s next) (local-reference 0 n) (λ v. local-fields (f v))
local-fields (a_list n f) = local-and_then (listed n) (λ vs s next. fields_read (f vs) s next) (local-listed n) (λ vs. local-fields (f vs))
local-fields (a_number lo hi f) = local-and_then (limited lo hi) (λ v s next. fields_read (f v) s next) (local-limited lo hi) (λ v. local-fields (f v))
local-fields (the_kind k) = local-got k

-- the checks at a constraint's end do not depend on the offsets
record Ended (end : ℕ) (y : Constraint) (last : ℕ) (p : ℕ → ℕ → Parsed Constraint) : Type 0 where
  same : end ≡ last
  moved : (at end : ℕ) → p at end ≡ got y end

checks : (a b c d e : Bool) (x : Constraint) → ℕ → ℕ → Parsed Constraint
checks a b c d e x at end =
    unless a 4 at (unless b 19 at (unless c 5 at (unless d 5 at (unless e 5 at (got x end)))))

checked : (a b c d e : Bool) (x : Constraint) (at end : ℕ) {y : Constraint} {last : ℕ} → checks a b c d e x at end ≡ got y last
    → Ended end y last (checks a b c d e x)
unfolding checks
checked true true true true true x at end {y} {last} h =
    let same : x ≡ y = cc in record { same = cc; moved = λ at end. ap (λ (z : Constraint). got z end) same }
checked false b c d e x at end {y} {last} h = refused-got (Ended end y last (checks false b c d e x)) h
checked true false c d e x at end {y} {last} h = refused-got (Ended end y last (checks true false c d e x)) h
checked true true false d e x at end {y} {last} h = refused-got (Ended end y last (checks true true false d e x)) h
checked true true true false e x at end {y} {last} h = refused-got (Ended end y last (checks true true true false e x)) h
checked true true true true false x at end {y} {last} h = refused-got (Ended end y last (checks true true true true false x)) h

-- a reading and then two others: the first two may be taken together
and_then-join : {A B C : Type 0} (p : Parsed A) (f : A → ℕ → Parsed B) (g : B → ℕ → Parsed C) (k : A → ℕ → Parsed C)
    → ((a : A) (next : ℕ) → k a next ≡ and_then (f a next) g) → and_then p k ≡ and_then (and_then p f) g
and_then-join (got a next) f g k h = h a next
and_then-join (refused n v) f g k h = refl

module _ (T R : ℕ) (es : List Event) (gs : List (List ℕ)) where
  -- the end of a constraint, and its fields
  abbrev end : ℕ → ℕ → Kind → ℕ → Parsed Constraint
  end at weight k last = ended_as at (counted_of T (duration_of es) (λ r. users r es) (group_at gs) k) weight k last

  abbrev fields : ℕ → List ℕ → ℕ → Parsed Kind
  fields kind s at = fields_read (fields_of (counts_of T R es gs) kind) s at

  ended_moved : (weight : ℕ) (k : Kind) (at last : ℕ) {y : Constraint} {next : ℕ} → end at weight k last ≡ got y next
      → Ended last y next (λ at last. end at weight k last)
  unfolding ended checks
  ended_moved weight k at last e =
      let c = counted_of T (duration_of es) (λ r. users r es) (group_at gs) k in
      let n = longest c.lists in
      let t = checked (leb n 255) (distinct k) (ordered k) (leb c.lo c.hi) (leb c.lo n) (record { weight = weight; kind = k }) at last e in
      record { same = t.same; moved = t.moved }

  -- kind, weight and fields, one after the other
  parts_at : List ℕ → ℕ → Parsed (ℕ × ℕ × Kind)
  parts_at s at =
      and_then (limited 1 11 s at)
      (λ kind next. and_then (limited 0 1000 s next) (λ weight more. and_then (fields kind s more) (λ k last. got (kind, weight, k) last)))

  local_parts : Local parts_at
  unfolding parts_at
  local_parts =
      local-and_then (limited 1 11)
      (λ kind s next. and_then (limited 0 1000 s next) (λ weight more. and_then (fields kind s more) (λ k last. got (kind, weight, k) last)))
      (local-limited 1 11)
      (λ kind.
      local-and_then (limited 0 1000) (λ weight s more. and_then (fields kind s more) (λ k last. got (kind, weight, k) last))
      (local-limited 0 1000)
      (λ weight. local-and_then (fields kind) (λ k s last. got (kind, weight, k) last) (local-fields _) (λ k. local-got _)))

  -- then the checks, with the offset of the kind
  constraint_parts : (s : List ℕ) (at : ℕ) → constraint_at T R es gs s at ≡ and_then (parts_at s at) (λ p last. end at p.1 p.2 last)
  unfolding constraint_at parts_at
  constraint_parts s at =
      and_then-join (limited 1 11 s at) _ _ _
      (λ kind next. and_then-join (limited 0 1000 s next) _ _ _ (λ weight more. and_then-join (fields kind s more) _ _ _ (λ k last. refl)))

  local_constraint : Local (constraint_at T R es gs)
  local_constraint =
      record {
        span = λ s at {v} {next} l e.
            let p = and_then-got (parts_at s at) (λ p last. end at p.1 p.2 last) (sym (constraint_parts s at) ∙ e) in
            let t = local_parts.span s at l p.first in
            let c = ended_moved p.value.1 p.value.2 at p.next p.rest in
            let reads : Reads (constraint_at T R es gs) (bytes_from at p.next s) v =
            record { here = λ s at q e. rw (constraint_parts s at, t.reads.here s at q e) (c.moved at _) } in
            record { ahead = omega (arith, t.ahead, c.same); inside = omega (arith, t.inside, c.same); reads = rw c.same at reads };
      }

  pub local_constraints : Local (constraints_at T R es gs)
  unfolding constraints_at
  local_constraints =
      local-and_then (limited 0 4096) (λ count s next. repeat count (constraint_at T R es gs s) next) (local-limited 0 4096)
      (λ count. local-repeat count (constraint_at T R es gs) local_constraint)
