-- A counter over literals with weights, for all weights and columns together: c(i, j) is true exactly where the first i
-- weights of true literals sum to at least j. The assignment makes variable 0 false.
use mathlib.Core.Path.{◌≡◌, refl, sym, ap, ◌∙◌}
use mathlib.Core.Bool.{Bool, true, false, ◌&&◌, ◌||◌, cond, or-false}
use mathlib.Core.Logic.{◌↔◌}
use mathlib.Core.List.{List, [], ◌∷◌, map}
use Prim.Native.Nat.{ℕ, zero, suc, ◌+◌, ◌-◌, ◌*◌, ◌<◌, ◌≤◌}
use native.Mathlib.Nat.{add-zero, zero-add, add_assoc, zero-mul, suc-mul, le_refl}
use native.Mathlib.Omega.{arith}
use lib.Dec.{leb, leb-zero, leb-suc-zero}
use lib.ListN.{length, take, length-append}
use lib.Seq.{take-length}
use borrow.Author.Tests.{leb-true, leb-false, le-leb}
use Rattle.laws.specs.Booleans.{leb-same}
use Rattle.laws.specs.Lists.{map-append}
use Rattle.scope.specs.Cnf.{Assignment, lit, cell, gate}
use Rattle.theory.proofs.laws.Outputs.{value}
use Rattle.scope.specs.Formula.{no_row, row_at, row, counter, last_row}
use Rattle.theory.proofs.laws.Gates.{lit_pos}
use Rattle.theory.proofs.laws.Circuit.{Holds, Holds-gates}

-- the weights of the true literals, summed
unfoldable pub total : Assignment → List (ℕ × ℕ) → ℕ
total ν [] = 0
total ν (x ∷ xs) = cond (lit ν x.1) x.0 0 + total ν xs

-- how many gates a row and a counter have
pub length-row : (p : ℕ → ℕ) (w x j k : ℕ) → length (row p w x j k) ≡ k
unfolding row
length-row p w x j zero = refl
length-row p w x j (suc k) = ap suc (length-row p w x (suc j) k)

pub length-counter : (p : ℕ → ℕ) (xs : List (ℕ × ℕ)) (J v : ℕ) → length (counter p xs J v) ≡ length xs * J
unfolding counter
length-counter p [] J v = sym (zero-mul J)
length-counter p (x ∷ xs) J v =
    simp (length-append, length-row, length-counter (row_at v) xs J (v + J), suc-mul) (omega arith)

-- row i of a counter under the row p
abbrev pub row_of : (ℕ → ℕ) → ℕ → ℕ → ℕ → ℕ → ℕ
row_of p J v zero = p
row_of p J v (suc i) = row_at (v + i * J)

row_of-step : (p : ℕ → ℕ) (J v i : ℕ) → row_of (row_at v) J (v + J) i ≡ row_of p J v (suc i)
row_of-step p J v zero = rw (zero-mul, add-zero)
row_of-step p J v (suc i) = let e : v + J + i * J ≡ v + suc i * J = omega arith in rw e

-- the last row is the row of the last literal
pub last_row-row : (p : ℕ → ℕ) (xs : List (ℕ × ℕ)) (J v : ℕ) → last_row p xs J v ≡ row_of p J v (length xs)
unfolding last_row
last_row-row p [] J v = refl
last_row-row p (x ∷ xs) J v = last_row-row (row_at v) xs J (v + J) ∙ row_of-step p J v (length xs)

-- one cell: the sum s before x of the weight w, and the column j
cell-step : (j s w : ℕ) (x : Bool) → leb j s || x && leb (j - w) s ≡ leb j (s + cond x w 0)
cell-step j s w false = rw add-zero (or-false (leb j s))
cell-step j s w true = go (leb j s) refl
  where
    go : (b : Bool) → leb j s ≡ b → b || leb (j - w) s ≡ leb j (s + w)
    go true e = sym (le-leb j (s + w) (omega (arith, leb-true j s e)))
    go false e = leb-same (j - w) s j (s + w) (omega (arith, leb-false j s e))

-- the row p counts the sum s: its column j, up to J, is true exactly where j ≤ s
abbrev pub Counts : Assignment → ℕ → (ℕ → ℕ) → ℕ → Type 0
Counts ν J p s = (j : ℕ) → j ≤ J → lit ν (p j) ≡ leb j s

module _ (ν : Assignment) (z : ν 0 ≡ false) where
  no_row-counts : (J : ℕ) → Counts ν J no_row 0
  unfolding lit
  no_row-counts J zero h = rw z
  no_row-counts J (suc j) h = rw (z, leb-suc-zero)

  row-at : (p : ℕ → ℕ) (w x j k v : ℕ) → Holds ν v (map gate (row p w x j k)) → (i : ℕ) → i < k
      → ν (v + i) ≡ value ν (cell x (p (j + i)) (p (j + i - w)))
  unfolding row
  row-at p w x j zero v h i l = let f : ⊥ = omega arith in absurd f
  row-at p w x j (suc k) v h zero l = simp add-zero h.0
  row-at p w x j (suc k) v h (suc i) l =
      let e : v + suc i ≡ suc v + i = omega arith in
      let f : j + suc i ≡ suc j + i = omega arith in
      rw (e, f) (row-at p w x (suc j) k (suc v) h.1 i (omega arith))

  row_counts : (p : ℕ → ℕ) (w x J v s : ℕ) → Counts ν J p s → Holds ν v (map gate (row p w x 1 J))
      → Counts ν J (row_at v) (s + cond (lit ν x) w 0)
  unfolding lit value
  row_counts p w x J v s m h zero l = rw (z, leb-zero)
  row_counts p w x J v s m h (suc i) l =
      let e : 1 + i ≡ suc i = omega arith in
      let c = rw e at (row-at p w x 1 J v h i l) in
      lit_pos ν (v + i) ∙ c ∙ rw (m (suc i) l, m (suc i - w) (omega arith)) (cell-step (suc i) s w (lit ν x))

  -- the first row of a counter, and the rows under it
  split_rows : (p : ℕ → ℕ) (x : ℕ × ℕ) (xs : List (ℕ × ℕ)) (J v : ℕ) → Holds ν v (map gate (counter p (x ∷ xs) J v))
      → Holds ν v (map gate (row p x.0 x.1 1 J)) × Holds ν (v + J) (map gate (counter (row_at v) xs J (v + J)))
  unfolding counter
  split_rows p x xs J v h =
      rw length-row at (Holds-gates ν v (row p x.0 x.1 1 J) _ (rw map-append at h))

  -- row i counts the first i
  counter_rows : (i : ℕ) (xs : List (ℕ × ℕ)) (p : ℕ → ℕ) (J v s : ℕ) → i ≤ length xs → Counts ν J p s
      → Holds ν v (map gate (counter p xs J v)) → Counts ν J (row_of p J v i) (s + total ν (take i xs))
  unfolding total
  counter_rows zero xs p J v s l m h = rw add-zero m
  counter_rows (suc i) [] p J v s l m h = let f : ⊥ = omega arith in absurd f
  counter_rows (suc i) (x ∷ xs) p J v s l m h =
      let q = split_rows p x xs J v h in
      let a = row_counts p x.0 x.1 J v s m q.0 in
      rw (← row_of-step p J v i, ← add_assoc)
      (counter_rows i xs (row_at v) J (v + J) (s + cond (lit ν x.1) x.0 0) (omega arith) a q.1)

  -- the last row counts the whole sum
  pub counter_counts : (xs : List (ℕ × ℕ)) (J v : ℕ) → Holds ν v (map gate (counter no_row xs J v))
      → Counts ν J (last_row no_row xs J v) (total ν xs)
  counter_counts xs J v h =
      rw (last_row-row no_row xs J v)
      (rw (take-length, zero-add) at (counter_rows (length xs) xs no_row J v 0 (le_refl (length xs)) (no_row-counts J) h))

  -- c(i, j), the variable v + (i − 1)×J + (j − 1), of a counter from the variable v on
  pub counter_cell : (xs : List (ℕ × ℕ)) (J v : ℕ) → Holds ν v (map gate (counter no_row xs J v)) → (i j : ℕ) → 1 ≤ i
      → i ≤ length xs → 1 ≤ j → j ≤ J → (ν (v + ((i - 1) * J + (j - 1))) ≡ true) ↔ (j ≤ total ν (take i xs))
  counter_cell xs J v h zero j a b c d = let f : ⊥ = omega arith in absurd f
  counter_cell xs J v h (suc i) zero a b c d = let f : ⊥ = omega arith in absurd f
  counter_cell xs J v h (suc i) (suc j) a b c d =
      let t = total ν (take (suc i) xs) in
      let e = rw (lit_pos, zero-add) at (counter_rows (suc i) xs no_row J v 0 b (no_row-counts J) h (suc j) d) in
      let p : suc i - 1 ≡ i = omega arith in
      let q : suc j - 1 ≡ j = omega arith in
      rw (p, q, ← add_assoc) (λ a. leb-true (suc j) t (sym e ∙ a), λ a. e ∙ le-leb (suc j) t a)
