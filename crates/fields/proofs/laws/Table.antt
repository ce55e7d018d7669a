-- The fields of each kind as data: laws.
use Prim.Native.Nat.{ℕ, ◌≤◌, ◌<◌}
use mathlib.Core.Path.{◌≡◌, refl}
use mathlib.Core.Bool.{Bool, true, false, cond}
use lib.Dec.{eqb, ltb}
use borrow.Author.Tests.{lt-ltb, le-ltb, ne_eqb}
use native.Mathlib.Omega.{arith}
use Rattle.scope.specs.Instance.{Counts}
use Rattle.fields.specs.declared.table.Totals.{Totals}
use Rattle.fields.specs.Table.{within, first_of, second_of, third_of, fourth_of, field_at, count_of}

-- how many things an instance has to refer to
abbrev pub totals_of : Counts → Totals
totals_of n = record { times = n.times; events = n.events; resources = n.resources; groups = n.groups }

-- each field by its place
module _ (n : Totals) (k : ℕ) where
  pub first_field : first_of n k ≡ field_at n k 0
  unfolding field_at
  first_field = refl

  pub second_field : second_of n k ≡ field_at n k 1
  unfolding field_at
  second_field = refl

  pub third_field : third_of n k ≡ field_at n k 2
  unfolding field_at
  third_field = refl

  -- up to kind 9 the last two are bounds of a count; after it the last is a gap's
  pub third_bound : k ≤ 9 → within 0 255 ≡ field_at n k 2
  unfolding field_at third_of
  third_bound h = rw (le-ltb 9 k h)

  pub fourth_bound : k ≤ 9 → within 0 255 ≡ field_at n k 3
  unfolding field_at fourth_of
  fourth_bound h = rw (le-ltb 9 k h)

  pub fourth_gap : 9 < k → within 0 124 ≡ field_at n k 3
  unfolding field_at fourth_of
  fourth_gap h = rw (lt-ltb 9 k h)

-- how many fields there are, by the kind: one at least, two from kind 2 on, three from kind 4 on
either : (P : ℕ → Type 0) (t : Bool) {a b : ℕ} → P a → P b → P (cond t a b)
either P true p q = p
either P false p q = q

three-or-four : (P : ℕ → Type 0) (k : ℕ) → P 3 → P 4 → P (cond (eqb k 4) 3 (cond (eqb k 10) 3 4))
three-or-four P k c d = either P (eqb k 4) c (either P (eqb k 10) c d)

pub count-one : (k : ℕ) → 0 < count_of k
unfolding count_of
count-one k =
    either (λ n. 0 < n) (ltb k 2) (omega arith)
    (either (λ n. 0 < n) (ltb k 4) (omega arith) (three-or-four (λ n. 0 < n) k (omega arith) (omega arith)))

pub count-two : (k : ℕ) → 2 ≤ k → 1 < count_of k
unfolding count_of
count-two k h =
    rw (le-ltb k 2 h) (either (λ n. 1 < n) (ltb k 4) (omega arith) (three-or-four (λ n. 1 < n) k (omega arith) (omega arith)))

pub count-three : (k : ℕ) → 4 ≤ k → 2 < count_of k
unfolding count_of
count-three k h = rw (le-ltb k 2 (omega arith), le-ltb k 4 h) (three-or-four (λ n. 2 < n) k (omega arith) (omega arith))

-- no more than one up to kind 1, than two up to kind 3, than three in kinds 4 and 10; else four
pub count-first : (k : ℕ) → k < 2 → count_of k ≤ 1
unfolding count_of
count-first k h = rw (lt-ltb k 2 h) (omega arith)

pub count-second : (k : ℕ) → k < 4 → count_of k ≤ 2
unfolding count_of
count-second k h = rw (lt-ltb k 4 h) (either (λ n. n ≤ 2) (ltb k 2) (omega arith) (omega arith))

pub count-four : count_of 4 ≤ 3
unfolding count_of
count-four = omega arith

pub count-ten : count_of 10 ≤ 3
unfolding count_of
count-ten = omega arith

pub count-other : (k : ℕ) → 4 ≤ k → (k ≡ 4 → ⊥) → (k ≡ 10 → ⊥) → count_of k ≡ 4
unfolding count_of
count-other k h a b = rw (le-ltb k 2 (omega arith), le-ltb k 4 h, ne_eqb k 4 a, ne_eqb k 10 b)
