-- A constraint without the checks at its end: kind, weight and fields: laws.
use Prim.Native.Nat.{ℕ}
use mathlib.Core.Path.{◌≡◌, refl, ◌∙◌}
use mathlib.Core.List.{List}
use Rattle.scope.specs.Parsed.{Parsed, got, refused, and_then}
use Rattle.scope.specs.Number.{limited}
use Rattle.scope.specs.Kinds.{Kind, Constraint, Event, duration_of, users, group_at, counted_of}
use Rattle.scope.specs.Instance.{Counts, counts_of, fields_read, fields_of, ended_as, constraint_at}
use Rattle.constraint.proofs.laws.Bounds.{bounds-right}
use Rattle.constraint.specs.Decoded.{decoded_at, ended_by, checked_at, longest_of}

fields-checked : (p : Parsed Kind) (weight : ℕ) (e : Constraint → ℕ → Parsed Constraint)
    → and_then p (λ k end. e (record { weight = weight; kind = k }) end)
    ≡ and_then (and_then p (λ k end. got (record { weight = weight; kind = k }) end)) e
fields-checked (got k end) weight e = refl
fields-checked (refused k v) weight e = refl

weight-checked : (p : Parsed ℕ) (f : ℕ → Parsed Kind) (e : Constraint → ℕ → Parsed Constraint)
    → and_then p (λ weight more. and_then (f more) (λ k end. e (record { weight = weight; kind = k }) end))
    ≡ and_then (and_then p (λ weight more. and_then (f more) (λ k end. got (record { weight = weight; kind = k }) end))) e
weight-checked (got weight more) f e = fields-checked (f more) weight e
weight-checked (refused k v) f e = refl

kind-checked : (p : Parsed ℕ) (q : ℕ → Parsed ℕ) (f : ℕ → ℕ → Parsed Kind) (e : Constraint → ℕ → Parsed Constraint)
    → and_then p
    (λ kind next.
    and_then (q next) (λ weight more. and_then (f kind more) (λ k end. e (record { weight = weight; kind = k }) end)))
    ≡ and_then
    (and_then p
    (λ kind next.
    and_then (q next) (λ weight more. and_then (f kind more) (λ k end. got (record { weight = weight; kind = k }) end))))
    e
kind-checked (got kind next) q f e = weight-checked (q next) (f kind) e
kind-checked (refused k v) q f e = refl

-- a constraint of an instance is one that is read and then checked
pub constraint-checked : (T R : ℕ) (es : List Event) (gs : List (List ℕ)) (s : List ℕ) (at : ℕ)
    → constraint_at T R es gs s at ≡ checked_at (counts_of T R es gs) (longest_of T es gs) s at
unfolding constraint_at checked_at decoded_at
constraint-checked T R es gs s at = parts ∙ by (decoded_at (counts_of T R es gs) s at)
  where
    ended_in : Constraint → ℕ → Parsed Constraint
    ended_in c end = ended_as at (counted_of T (duration_of es) (λ r. users r es) (group_at gs) c.kind) c.weight c.kind end

    parts : constraint_at T R es gs s at ≡ and_then (decoded_at (counts_of T R es gs) s at) ended_in
    parts = kind-checked (limited 1 11 s at) (limited 0 1000 s) (λ kind more. fields_read (fields_of (counts_of T R es gs) kind) s more) ended_in

    by : (p : Parsed Constraint) → and_then p ended_in ≡ and_then p (ended_by (longest_of T es gs) at)
    by (got c end) = let b = bounds-right T (duration_of es) (λ r. users r es) (group_at gs) c.kind in rw (b.lo, b.hi)
    by (refused k v) = refl

-- two measures of the list that agree check alike
pub checked-same : (n : Counts) (len len' : Kind → ℕ) (s : List ℕ) (at : ℕ)
    → ((k : Kind) → len k ≡ len' k)
    → checked_at n len s at ≡ checked_at n len' s at
unfolding checked_at
checked-same n len len' s at h = by (decoded_at n s at)
  where
    by : (p : Parsed Constraint) → and_then p (ended_by len at) ≡ and_then p (ended_by len' at)
    by (got c end) = rw (h c.kind)
    by (refused k v) = refl
