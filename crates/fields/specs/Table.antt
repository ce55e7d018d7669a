-- The fields of each kind as data: which stands after i others, and how many there are. The law `row-right` says that they are the
-- rows of the table in the definitions.
use Rattle.std.specs.Prelude.{ℕ, zero, suc, Bool, false, cond, List, [], ◌∷◌, eqb, ltb}
use Rattle.fields.specs.declared.table.Totals.{Totals}

-- a reference to one of n things, a list of such references, or a number from lo to hi
pub data Field : Type 0 where
  to_one : (n : ℕ) → Field
  to_many : (n : ℕ) → Field
  within : (lo hi : ℕ) → Field

-- how many things the first field refers to: events or resources
unfoldable pub things_of : Totals → ℕ → ℕ
things_of n k = cond (ltb 8 k) n.events (cond (ltb 5 k) n.resources (cond (ltb 2 k) n.events n.resources))

unfoldable pub first_of : Totals → ℕ → Field
first_of n k = cond (eqb k 5) (to_many n.events) (to_one (things_of n k))

unfoldable pub second_of : Totals → ℕ → Field
second_of n k =
    cond (ltb 8 k) (cond (eqb k 11) (to_one n.events) (within 1 n.times))
    (cond (ltb 6 k) (to_many n.groups) (cond (eqb k 4) (within 0 255) (to_one n.groups)))

-- whether the second field is a list
unfoldable pub second_listed : ℕ → Bool
second_listed k = cond (ltb 8 k) false (ltb 6 k)

unfoldable pub third_of : Totals → ℕ → Field
third_of n k = cond (ltb 9 k) (cond (eqb k 10) (within 1 n.times) (within 0 124)) (within 0 255)

unfoldable pub fourth_of : ℕ → Field
fourth_of k = cond (ltb 9 k) (within 0 124) (within 0 255)

-- the field after i others
unfoldable pub field_at : Totals → ℕ → ℕ → Field
field_at n k i = cond (eqb i 0) (first_of n k) (cond (eqb i 1) (second_of n k) (cond (eqb i 2) (third_of n k) (fourth_of k)))

-- how many fields a kind has
unfoldable pub count_of : ℕ → ℕ
count_of k = cond (ltb k 2) 1 (cond (ltb k 4) 2 (cond (eqb k 4) 3 (cond (eqb k 10) 3 4)))

-- j fields, after i others
unfoldable pub fields_from : Totals → (k i j : ℕ) → List Field
fields_from n k i zero = []
fields_from n k i (suc j) = field_at n k i ∷ fields_from n k (suc i) j
