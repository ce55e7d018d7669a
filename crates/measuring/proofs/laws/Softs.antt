-- The soft units of a counted list: each has the list's weight, and its literal is no constant.
use mathlib.Core.Path.{◌≡◌, refl, ap, ap₂}
use mathlib.Core.Bool.{Bool, true, false, cond}
use mathlib.Core.List.{List, [], ◌∷◌, ◌++◌, map}
use Prim.Native.Nat.{ℕ, zero, suc, ◌+◌, ◌-◌, ◌*◌, ◌≤◌, ◌<◌}
use native.Mathlib.Omega.{arith}
use lib.ListN.{length, replicate}
use lib.Dec.{leb, ltb}
use Rattle.scope.specs.Cnf.{opp, Gate, Item, gate, hard, soft, soft_units}
use Rattle.scope.specs.Kinds.{Rule, from}
use Rattle.scope.specs.Formula.{no_row, row_at, counter, last_row, columns, ones, low_units, high_units, short_units, bound_items, count_into, count_items}
use Rattle.theory.proofs.laws.Costs.{soft_units-append}
use Rattle.laws.specs.Lists.{All, All-append}
use Rattle.measuring.proofs.laws.Rows.{Proper, weights}

-- soft units of the weight w whose literals are no constants
abbrev pub Weighing : ℕ → List (ℕ × ℕ) → Type 0
Weighing w us = All (λ u. (u.0 ≡ w) × (2 ≤ u.1)) us

-- their weights, and their literals
pub weighing-weights : (w : ℕ) (us : List (ℕ × ℕ)) → Weighing w us → weights us ≡ replicate (length us) w
weighing-weights w [] p = refl
weighing-weights w (u ∷ us) p = ap₂ (λ x xs. x ∷ xs) p.0.0 (weighing-weights w us p.1)

pub weighing-proper : (w : ℕ) (us : List (ℕ × ℕ)) → Weighing w us → Proper us
weighing-proper w [] p = tt
weighing-proper w (u ∷ us) p = (p.0.1, weighing-proper w us p.1)

-- soft units one after the other; gates have none
pub weights-append : (us vs : List (ℕ × ℕ)) → weights (us ++ vs) ≡ weights us ++ weights vs
weights-append [] vs = refl
weights-append (u ∷ us) vs = ap (λ ws. u.0 ∷ ws) (weights-append us vs)

pub soft-gates : (gs : List Gate) → soft_units (map gate gs) ≡ []
unfolding soft_units
soft-gates [] = refl
soft-gates (g ∷ gs) = soft-gates gs

-- soft units for k columns from j on
from-weighing : (w : ℕ) (f : ℕ → ℕ) (j k : ℕ) → ((i : ℕ) → j ≤ i → i < j + k → 2 ≤ f i)
    → Weighing w (soft_units (map (λ i. soft w (f i)) (from j k)))
unfolding from soft_units
from-weighing w f j zero h = tt
from-weighing w f j (suc k) h =
    ((refl, h j (omega arith) (omega arith)), from-weighing w f (suc j) k (λ i a b. h i (omega arith) (omega arith)))

-- none where a hard clause stands
cond-weighing : (w : ℕ) (c : List ℕ) (b : Bool) → Weighing w (soft_units (cond b (hard c ∷ []) []))
unfolding soft_units
cond-weighing w c true = tt
cond-weighing w c false = tt

-- the low part, the high part, and kind 6's low part
low-weighing : (w : ℕ) (q : ℕ → ℕ) (lo : ℕ) → ((i : ℕ) → 1 ≤ i → i < 1 + lo → 2 ≤ q i) → Weighing w (soft_units (low_units w q lo))
unfolding low_units
low-weighing zero q lo h = cond-weighing 0 (q lo ∷ []) (leb 1 lo)
low-weighing (suc w) q lo h = from-weighing (suc w) q 1 lo h

high-weighing : (w : ℕ) (q : ℕ → ℕ) (hi n : ℕ) → ((i : ℕ) → 1 ≤ i → 1 ≤ n → 2 ≤ q i)
    → Weighing w (soft_units (high_units w q hi n))
unfolding high_units
high-weighing zero q hi n h = cond-weighing 0 (opp (q (hi + 1)) ∷ []) (ltb hi n)
high-weighing (suc w) q hi n h =
    from-weighing (suc w) (λ j. opp (q j)) (hi + 1) (n - hi)
    (λ i a b. omega (arith, h i (omega arith) (omega arith)))

short-weighing : (w : ℕ) (q : ℕ → ℕ) (j k v : ℕ) → 1 ≤ v → Weighing w (soft_units (short_units w q j k v))
unfolding short_units soft_units
short-weighing w q j zero v h = tt
short-weighing zero q j (suc k) v h = short-weighing 0 q (suc j) k (suc v) (omega arith)
short-weighing (suc w) q j (suc k) v h = ((refl, omega arith), short-weighing (suc w) q (suc j) k (suc v) (omega arith))

-- past column 0 the last row has no constants
last-proper : (xs : List (ℕ × ℕ)) (cols u v : ℕ) → 1 ≤ u → 1 ≤ v → (j : ℕ) → 2 ≤ last_row (row_at u) xs cols v (suc j)
unfolding last_row
last-proper [] cols u v hu hv j = omega arith
last-proper (x ∷ xs) cols u v hu hv j = last-proper xs cols v (v + cols) hv (omega arith) j

row-proper : (xs : List ℕ) (cols v : ℕ) → 1 ≤ v → (i : ℕ) → 1 ≤ i → 1 ≤ length xs → 2 ≤ last_row no_row (ones xs) cols v i
unfolding last_row
row-proper [] cols v h i a b = omega arith
row-proper (x ∷ xs) cols v h zero a b = omega arith
row-proper (x ∷ xs) cols v h (suc j) a b = last-proper (ones xs) cols v (v + cols) h (omega arith) j

-- of one list of items or another, and of both together
either-weighing : (w : ℕ) (b : Bool) (is js : List Item) → Weighing w (soft_units is) → Weighing w (soft_units js)
    → Weighing w (soft_units (cond b is js))
either-weighing w true is js p q = p
either-weighing w false is js p q = q

pub append-weighing : (w : ℕ) (is js : List Item) → Weighing w (soft_units is) → Weighing w (soft_units js)
    → Weighing w (soft_units (is ++ js))
append-weighing w is js p q =
    rw (soft_units-append is js) (All-append (λ u. (u.0 ≡ w) × (2 ≤ u.1)) (soft_units is) (soft_units js) p q)

pub gates-weighing : (w : ℕ) (gs : List Gate) → Weighing w (soft_units (map gate gs))
gates-weighing w gs = rw (soft-gates gs) tt

-- the soft units of a counted list
pub count-weighing : (w : ℕ) (r : Rule) (xs : List ℕ) (v : ℕ) → 1 ≤ v → r.lo ≤ length xs
    → Weighing w (soft_units (count_items w r xs v))
unfolding count_into bound_items
count-weighing w r xs v h k =
    let cols = columns w r.hi (length xs) in
    let q = last_row no_row (ones xs) cols v in
    let u = v + length xs * cols in
    let shorts = short-weighing w q 2 (r.lo - 1) u (omega arith) in
    let lows = low-weighing w q r.lo (λ i a b. row-proper xs cols v h i a (omega arith)) in
    let highs = high-weighing w q r.hi (length xs) (row-proper xs cols v h) in
    let low = either-weighing w r.zero_free (short_units w q 2 (r.lo - 1) u) (low_units w q r.lo) shorts lows in
    append-weighing w (map gate (counter no_row (ones xs) cols v)) _ (gates-weighing w (counter no_row (ones xs) cols v))
    (append-weighing w _ (high_units w q r.hi (length xs)) low highs)
