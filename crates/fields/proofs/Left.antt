-- What is left to read of a constraint after some of its fields: one field more, a refusal, the end.
use Prim.Native.Nat.{ℕ, suc, ◌-◌, ◌<◌, ◌≤◌}
use mathlib.Core.Path.{◌≡◌, sym, ◌∙◌}
use mathlib.Core.List.{List}
use native.Mathlib.Omega.{arith}
use native.Mathlib.Nat.{sub-zero}
use Rattle.scope.specs.Parsed.{got, and_then}
use Rattle.scope.specs.Instance.{fields_read}
use Rattle.scope.specs.Answers.{said}
use Rattle.scope.specs.declared.refusal.Refusal.{Refusal}
use Rattle.std.specs.Result.{IsErr, IsErrAnd}
use Rattle.std.proofs.Common.{Result, Ok, Err}
use Rattle.number.proofs.laws.Sequence.{handed-on}
use Rattle.fields.specs.Answers.{said_flat}
use Rattle.number.specs.Lists.{leading}
use Rattle.fields.specs.declared.table.Totals.{Totals}
use Rattle.fields.specs.declared.flat.Flat.{Flat}
use Rattle.fields.specs.Made.{kind_from}
use Rattle.fields.specs.Flat.{put_of, nothing, left, left_in, left_after, row_of, FieldRead}
use Rattle.fields.specs.Table.{Field, field_at, count_of, fields_from}

-- at the start all fields are left
pub left_start : (n : Totals) (kind : ℕ) (l s : List ℕ) (at : ℕ) → fields_read (row_of n kind) s at ≡ left_after 0 n kind nothing l s at
unfolding left_after leading
left_start n kind l s at = rw sub-zero

module _ (i : ℕ) (n : Totals) (kind : ℕ) (w : Flat) (l s : List ℕ) (at : ℕ) where
  -- one more field, whose answer is x
  module _ (f : Field) (l' : List ℕ) (x : Result (ℕ × ℕ) Refusal) (most : ℕ) (m : most ≡ count_of kind) (h : i < most) (c : f ≡ field_at n kind i) (r : FieldRead f l l' s at x) where
    turn : left_after i n kind w l s at
        ≡ and_then (said x) (λ v next. fields_read (left_in (fields_from n kind (suc i) (count_of kind - suc i)) kind (put_of f v w) l') s next)
    unfolding left_after fields_from
    turn =
        let k : count_of kind - i ≡ suc (count_of kind - suc i) = omega arith in
        let e = r.eq (fields_from n kind (suc i) (count_of kind - suc i)) kind w in
        rw (k, ← c, e)

    pub left_more : (v next : ℕ) (w' : Flat)
        → x ≡ Ok (v, next)
        → w' ≡ put_of f v w
        → left_after (suc i) n kind w' l' s next ≡ left_after i n kind w l s at
    unfolding left_after
    left_more v next w' e p = sym (turn ∙ rw (e, p))

    pub left_refused : (m : List ℕ) (r : Result (Flat × ℕ) Refusal) (g : Refusal)
        → x ≡ Err g
        → IsErr r × IsErrAnd r (λ e. e ≡ g)
        → said_flat kind m r ≡ left_after i n kind w l s at
    left_refused m r g t p = rw (handed-on r g p) (sym (turn ∙ rw t))

  -- at the end
  pub left_end : (most : ℕ) → most ≡ count_of kind → most ≤ i → got (kind_from kind w (leading w.list l)) at ≡ left_after i n kind w l s at
  unfolding left_after fields_from left fields_read
  left_end most m h = let z : count_of kind - i ≡ 0 = omega arith in sym (rw z)
