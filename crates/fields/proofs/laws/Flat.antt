-- The numbers of a constraint's fields, read one after another: laws.
use Prim.Native.Nat.{ℕ}
use Rattle.std.proofs.Common.{Result, Ok, Err}
use mathlib.Core.Path.{◌≡◌, refl}
use mathlib.Core.Bool.{Bool, true, false, cond}
use mathlib.Core.List.{List}
use lib.ListN.{length}
use lib.Dec.{eqb, ltb}
use Rattle.scope.specs.Parsed.{and_then}
use Rattle.scope.specs.Number.{limited, reference, listed}
use Rattle.scope.specs.Instance.{fields_read}
use Rattle.scope.specs.Answers.{said}
use Rattle.scope.specs.declared.refusal.Refusal.{Refusal}
use Rattle.number.proofs.laws.Lists.{length-leading}
use Rattle.fields.specs.declared.table.Totals.{Totals}
use Rattle.fields.specs.declared.flat.Flat.{Flat}
use Rattle.fields.specs.Answers.{said_list}
use Rattle.fields.specs.Flat.{counting, pushed, put_or, put_of, left, left_in, FieldRead, NumberRead}
use Rattle.fields.specs.Table.{Field, to_one, to_many, within, first_of, second_of, third_of, things_of, second_listed}

module _ (n : ℕ) (l s : List ℕ) (at : ℕ) (x : Result (ℕ × ℕ) Refusal) where
  pub reference_read : said x ≡ reference 0 n s at → FieldRead (to_one n) l l s at x
  unfolding fields_read left
  reference_read e = record { eq = λ fs k w. rw e }

  pub list_read : (l' : List ℕ) → said_list l' x ≡ listed n s at → FieldRead (to_many n) l l' s at x
  unfolding fields_read left
  list_read l' e = record { eq = λ fs k w. rw (← e) (by fs k w x) }
    where
      by : (fs : List Field) (k : ℕ) (w : Flat) (x : Result (ℕ × ℕ) Refusal)
          → and_then (said_list l' x) (λ vs next. fields_read (left fs k (counting (length vs) w) vs) s next)
          ≡ and_then (said x) (λ v next. fields_read (left_in fs k (counting v w) l') s next)
      by fs k w (Ok r) = rw (length-leading r.0 l')
      by fs k w (Err f) = refl

pub number_read : (lo hi : ℕ) (l s : List ℕ) (at : ℕ) (x : Result (ℕ × ℕ) Refusal) → said x ≡ limited lo hi s at → FieldRead (within lo hi) l l s at x
unfolding fields_read left
number_read lo hi l s at x e = record { eq = λ fs k w. rw e }

pub bound-read : (lo hi : ℕ) (s : List ℕ) (at : ℕ) (x : Result (ℕ × ℕ) Refusal) → said x ≡ limited lo hi s at → NumberRead (within lo hi) s at x
bound-read lo hi s at x e = record { each = λ l. number_read lo hi l s at x e }

-- what is put is a list's length where the field is a list
put-by : (t : Bool) (a b : ℕ) (v : ℕ) (w : Flat) → put_or t v w ≡ put_of (cond t (to_many a) (to_one b)) v w
unfolding put_or
put-by true a b v w = refl
put-by false a b v w = refl

pub put_first : (n : Totals) (k v : ℕ) (w : Flat) → put_or (eqb k 5) v w ≡ put_of (first_of n k) v w
unfolding first_of
put_first n k v w = put-by (eqb k 5) n.events (things_of n k) v w

put-among : (n : Totals) (v : ℕ) (w : Flat) (a b c d : Bool)
    → put_or (cond a false b) v w
    ≡ put_of (cond a (cond d (to_one n.events) (within 1 n.times)) (cond b (to_many n.groups) (cond c (within 0 255) (to_one n.groups)))) v w
unfolding put_or
put-among n v w true b c true = refl
put-among n v w true b c false = refl
put-among n v w false true c d = refl
put-among n v w false false true d = refl
put-among n v w false false false d = refl

pub put_second : (n : Totals) (k v : ℕ) (w : Flat) → put_or (second_listed k) v w ≡ put_of (second_of n k) v w
unfolding second_of second_listed
put_second n k v w = put-among n v w (ltb 8 k) (ltb 6 k) (eqb k 4) (eqb k 11)

pub put-third : (n : Totals) (k v : ℕ) (w : Flat) → pushed v w ≡ put_of (third_of n k) v w
unfolding third_of
put-third n k v w = by (ltb 9 k) (eqb k 10)
  where
    by : (a b : Bool) → pushed v w ≡ put_of (cond a (cond b (within 1 n.times) (within 0 124)) (within 0 255)) v w
    by true true = refl
    by true false = refl
    by false b = refl
