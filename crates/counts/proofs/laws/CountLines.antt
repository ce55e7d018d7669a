-- The lines of a counted list: its counter, its low part, its high part: laws.
use mathlib.Core.Path.{◌≡◌, refl, ap, ◌∙◌}
use mathlib.Core.Bool.{Bool, true, false, cond}
use mathlib.Core.List.{List, [], ◌∷◌, ◌++◌, map}
use Prim.Native.Nat.{ℕ, zero, suc, ◌+◌, ◌-◌, ◌*◌, ◌≤◌}
use native.Mathlib.Nat.{add-zero, mul-le-mul_right}
use native.Mathlib.Omega.{arith}
use lib.Dec.{leb, ltb}
use lib.ListN.{length, length-append}
use Rattle.scope.specs.Kinds.{Rule, from}
use Rattle.scope.specs.Cnf.{neg, opp, Item, gate, hard, soft, gates}
use Rattle.scope.specs.Formula.{no_row, row_at, row, counter, last_row, ones, unit, low_units, high_units, short_units, bound_items, count_into}
use Rattle.sink.specs.Lines.{lines, lines-append}
use Rattle.sink.proofs.laws.Tails.{row_length, last-at, last_row_lem}
use Rattle.sink.specs.World.{row_over}
use Rattle.counters.specs.Rows.{gates-map}
use Rattle.gates.specs.Units.{unit_line}
use Rattle.counts.specs.UnitLines.{units_from}
use Rattle.counts.proofs.laws.UnitLines.{low_hard, low_soft, high_none, high-any}
use Rattle.constraint.specs.declared.kinds.Bounds.{Bounds}
use Rattle.counts.specs.CountLines.{rule_of, low_items}

-- how many variables a counter has
pub counter-length : (p : ℕ → ℕ) (xs : List ℕ) (J v : ℕ) → length (counter p (ones xs) J v) ≡ length xs * J
unfolding counter
counter-length p [] J v = omega arith
counter-length p (x ∷ xs) J v =
    length-append (row p 1 x 1 J) (counter (row_at v) (ones xs) J (v + J))
    ∙ rw (row_length p 1 x 1 J, counter-length (row_at v) xs J (v + J)) (omega arith)

ones-length : (xs : List ℕ) → length (ones xs) ≡ length xs
ones-length [] = refl
ones-length (x ∷ xs) = ap suc (ones-length xs)

-- the first variable of a counter's last row, where it has one
pub counter-last : (xs : List ℕ) (J v : ℕ) → 1 ≤ length xs → 1 ≤ v → last_row no_row (ones xs) J v ≡ row_over (v + (length xs - 1) * J)
counter-last [] J v h g = absurd (omega arith)
counter-last (x ∷ xs) J v h g =
    let n : suc (length xs) - 1 ≡ length xs = omega arith in
    last_row_lem J 0 v (ones (x ∷ xs)) g ∙ rw (ones-length xs, last-at J 0 v (length xs), n)

-- no low part where lo is 0
low-nothing : (w : ℕ) (b : Bounds) (q : ℕ → ℕ) (v : ℕ) → b.lo ≡ 0 → low_items w b q v ≡ []
unfolding low_items short_units low_units from
low-nothing w b q v z = rw z (go w b.free)
  where
    go : (w : ℕ) (t : Bool) → cond t (short_units w q 2 (0 - 1) v) (low_units w q 0) ≡ []
    go w true = refl
    go zero false = refl
    go (suc u) false = refl

-- the last row starts among the counter's variables
pub last_within : (n k : ℕ) → (n - 1) * k ≤ n * k
last_within n k = mul-le-mul_right k (omega arith)

-- the lines of the low part by cases
module _ (w : ℕ) (b : Bounds) (q : ℕ → ℕ) (v : ℕ) where
  pub low_zero : b.lo ≡ 0 → lines v (low_items w b q v) ≡ []
  unfolding lines
  low_zero z = rw (low-nothing w b q v z)

  pub low_free : b.free ≡ true → lines v (low_items w b q v) ≡ lines v (short_units w q 2 (b.lo - 1) v)
  unfolding low_items
  low_free e = rw e

  pub low_unit : b.free ≡ false → w ≡ 0 → 1 ≤ b.lo → lines v (low_items w b q v) ≡ unit_line w (q b.lo) ∷ []
  unfolding low_items
  low_unit e z h = rw e (low_hard v w q b.lo z h)

  pub low-units : b.free ≡ false → (w ≡ 0 → ⊥) → lines v (low_items w b q v) ≡ units_from w q 1 b.lo
  unfolding low_items
  low-units e z = rw e (low_soft v w q b.lo z)

-- a list without members
pub count_none : (J w : ℕ) (b : Bounds) (xs : List ℕ) (v : ℕ) → length xs ≡ 0 → b.lo ≡ 0 → lines v (count_into J w (rule_of b) xs v) ≡ []
unfolding count_into bound_items counter last_row low_items
count_none J w b [] v e z =
    let n : v + 0 * J ≡ v = omega arith in
    rw (n, low-nothing w b no_row v z) (high_none v w no_row b.hi 0 (omega arith))
count_none J w b (x ∷ xs) v e z = absurd (omega arith)

module _ (J w : ℕ) (b : Bounds) (xs : List ℕ) (v : ℕ) where
  -- the three parts
  pub count_lines : (q : ℕ) → 1 ≤ length xs → 1 ≤ v → q ≡ v + (length xs - 1) * J
      → lines v (count_into J w (rule_of b) xs v)
      ≡ lines v (map gate (counter no_row (ones xs) J v))
      ++ (lines (v + length xs * J) (low_items w b (row_over q) (v + length xs * J)) ++ lines 0 (high_units w (row_over q) b.hi (length xs)))
  unfolding count_into bound_items low_items
  count_lines q h g e =
      let n : gates (map gate (counter no_row (ones xs) J v)) ≡ length xs * J = gates-map (counter no_row (ones xs) J v) ∙ counter-length no_row xs J v in
      let low : List Item = cond b.free (short_units w (row_over q) 2 (b.lo - 1) (v + length xs * J)) (low_units w (row_over q) b.lo) in
      let high : List Item = high_units w (row_over q) b.hi (length xs) in
      rw (counter-last xs J v h g, ← e)
      (lines-append v (map gate (counter no_row (ones xs) J v)) (low ++ high)
      ∙ rw n (ap (◌++◌ (lines v (map gate (counter no_row (ones xs) J v))))
      (lines-append (v + length xs * J) low high
      ∙ ap (◌++◌ (lines (v + length xs * J) low)) (high-any (v + length xs * J + gates low) 0 w (row_over q) b.hi (length xs)))))

-- how many variables a counted list adds
unit-none : (w l : ℕ) (is : List Item) → gates (unit w l ∷ is) ≡ gates is
unit-none zero l is = refl
unit-none (suc w) l is = refl

short-gates : (w : ℕ) (q : ℕ → ℕ) (j k v : ℕ) → gates (short_units w q j k v) ≡ k
unfolding short_units
short-gates w q j zero v = refl
short-gates w q j (suc k) v = ap suc (unit-none w (neg v) (short_units w q (suc j) k (suc v)) ∙ short-gates w q (suc j) k (suc v))

softs-gates : (w : ℕ) (f : ℕ → ℕ) (js : List ℕ) → gates (map (λ j. soft w (f j)) js) ≡ 0
softs-gates w f [] = refl
softs-gates w f (j ∷ js) = softs-gates w f js

hard-gates : (t : Bool) (c : List ℕ) → gates (cond t (hard c ∷ []) []) ≡ 0
hard-gates true c = refl
hard-gates false c = refl

low-gates : (w : ℕ) (q : ℕ → ℕ) (lo : ℕ) → gates (low_units w q lo) ≡ 0
unfolding low_units
low-gates zero q lo = hard-gates (leb 1 lo) (q lo ∷ [])
low-gates (suc w) q lo = softs-gates (suc w) q (from 1 lo)

high-gates : (w : ℕ) (q : ℕ → ℕ) (hi n : ℕ) → gates (high_units w q hi n) ≡ 0
unfolding high_units
high-gates zero q hi n = hard-gates (ltb hi n) (opp (q (hi + 1)) ∷ [])
high-gates (suc w) q hi n = softs-gates (suc w) (λ j. opp (q j)) (from (hi + 1) (n - hi))

gates-append : (is js : List Item) → gates (is ++ js) ≡ gates is + gates js
gates-append [] js = omega arith
gates-append (gate g ∷ is) js = ap suc (gates-append is js) ∙ omega arith
gates-append (hard c ∷ is) js = gates-append is js
gates-append (soft w l ∷ is) js = gates-append is js

pub count-gates : (J w : ℕ) (r : Rule) (xs : List ℕ) (v : ℕ)
    → gates (count_into J w r xs v) ≡ length xs * J + cond r.zero_free (r.lo - 1) 0
unfolding count_into bound_items
count-gates J w r xs v =
    let q : ℕ → ℕ = last_row no_row (ones xs) J v in
    let low : List Item = cond r.zero_free (short_units w q 2 (r.lo - 1) (v + length xs * J)) (low_units w q r.lo) in
    gates-append (map gate (counter no_row (ones xs) J v)) (low ++ high_units w q r.hi (length xs))
    ∙ rw (
      gates-map (counter no_row (ones xs) J v),
      counter-length no_row xs J v,
      gates-append low (high_units w q r.hi (length xs)),
      high-gates w q r.hi (length xs),
    )
    (ap (◌+◌ (length xs * J)) (add-zero (gates low) ∙ go r.zero_free))
  where
    go : (t : Bool) → gates (cond t (short_units w (last_row no_row (ones xs) J v) 2 (r.lo - 1) (v + length xs * J)) (low_units w (last_row no_row (ones xs) J v) r.lo))
        ≡ cond t (r.lo - 1) 0
    go true = short-gates w (last_row no_row (ones xs) J v) 2 (r.lo - 1) (v + length xs * J)
    go false = low-gates w (last_row no_row (ones xs) J v) r.lo
