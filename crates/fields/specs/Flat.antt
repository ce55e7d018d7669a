-- The numbers of a constraint's fields, read one after another.
use Rattle.std.specs.Prelude.{ℕ, ◌-◌, ◌≡◌, Bool, cond, List, [], ◌∷◌, length, Result}
use Rattle.scope.specs.Parsed.{Parsed, and_then}
use Rattle.scope.specs.Kinds.{Kind}
use Rattle.scope.specs.Instance.{Fields, a_reference, a_list, a_number, the_kind, fields_read}
use Rattle.scope.specs.Answers.{said}
use Rattle.scope.specs.declared.refusal.Refusal.{Refusal}
use Rattle.number.specs.Lists.{leading}
use Rattle.fields.specs.declared.table.Totals.{Totals}
use Rattle.fields.specs.declared.flat.Flat.{Flat}
use Rattle.fields.specs.Made.{kind_from}
use Rattle.fields.specs.Answers.{said_flat}
use Rattle.fields.specs.Table.{Field, to_one, to_many, within, count_of, fields_from}

-- one more number, and a list's length
abbrev pub pushed : ℕ → Flat → Flat
pushed v w = record { a = w.b; b = w.c; c = w.d; d = v; list = w.list }

abbrev pub counting : ℕ → Flat → Flat
counting v w = record { a = w.a; b = w.b; c = w.c; d = w.d; list = v }

unfoldable pub put_or : Bool → ℕ → Flat → Flat
put_or listed v w = cond listed (counting v w) (pushed v w)

abbrev pub put_of : Field → ℕ → Flat → Flat
put_of (to_one n) v w = pushed v w
put_of (to_many n) v w = counting v w
put_of (within lo hi) v w = pushed v w

abbrev pub nothing : Flat
nothing = record { a = 0; b = 0; c = 0; d = 0; list = 0 }

-- the fields that are left, after those whose numbers and list are known
unfoldable pub left : List Field → ℕ → Flat → List ℕ → Fields
left [] k w l = the_kind (kind_from k w l)
left (to_one n ∷ fs) k w l = a_reference n (λ v. left fs k (pushed v w) l)
left (to_many n ∷ fs) k w l = a_list n (λ vs. left fs k (counting (length vs) w) vs)
left (within lo hi ∷ fs) k w l = a_number lo hi (λ v. left fs k (pushed v w) l)

-- the same with the list in a store
abbrev pub left_in : List Field → ℕ → Flat → List ℕ → Fields
left_in fs k w l = left fs k w (leading w.list l)

-- all fields of a kind
abbrev pub row_of : Totals → ℕ → Fields
row_of n k = left (fields_from n k 0 (count_of k)) k nothing []

-- what stands at an offset after i fields, whose numbers are in w and whose list is in the store l
unfoldable pub left_after : ℕ → Totals → ℕ → Flat → List ℕ → List ℕ → ℕ → Parsed Kind
left_after i n k w l s at = fields_read (left_in (fields_from n k i (count_of k - i)) k w l) s at

-- a field that was read at an offset, with the store before and after: the other fields go on from its number
pub record FieldRead (f : Field) (l l' s : List ℕ) (at : ℕ) (x : Result (ℕ × ℕ) Refusal) : Type 0 where
  pub eq : (fs : List Field) (k : ℕ) (w : Flat)
      → fields_read (left_in (f ∷ fs) k w l) s at
      ≡ and_then (said x) (λ v next. fields_read (left_in fs k (put_of f v w) l') s next)

-- one without a list, and those after the second: whatever the store holds
pub record NumberRead (f : Field) (s : List ℕ) (at : ℕ) (x : Result (ℕ × ℕ) Refusal) : Type 0 where
  pub each : (l : List ℕ) → FieldRead f l l s at x

pub record BoundsRead (k : ℕ) (n : Totals) (w : Flat) (s : List ℕ) (at : ℕ) (x : Result (Flat × ℕ) Refusal) : Type 0 where
  pub eq : (l : List ℕ) → said_flat k l x ≡ left_after 2 n k w l s at
