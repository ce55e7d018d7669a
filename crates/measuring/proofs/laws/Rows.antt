-- The sizes of a counter's rows and of a counter are those of their gates, from the weights of their literals and the number of columns.
use mathlib.Core.Path.{◌≡◌, refl, sym, ◌∙◌}
use mathlib.Core.List.{List, [], ◌∷◌, ◌++◌, map}
use Prim.Native.Nat.{ℕ, zero, suc, ◌+◌, ◌-◌, ◌*◌, min, ◌≤◌}
use native.Mathlib.Nat.{sub-zero}
use native.Mathlib.Omega.{arith}
use lib.ListN.{replicate}
use Rattle.scope.specs.Cnf.{pos, Gate, cell, gate}
use Rattle.scope.specs.Formula.{no_row, row_at, row, counter}
use Rattle.laws.specs.Lists.{All}
use Rattle.sizing.specs.declared.Size.{Size}
use Rattle.sizing.specs.Sums.{none, sum, multiple}
use Rattle.sizing.proofs.laws.Sums.{equal, none-sum, sum-assoc, multiple-zero, multiple-suc}
use Rattle.sizing.specs.Gates.{variable_size}
use Rattle.sizing.specs.Rows.{first_row, later_row, equal_rows}
use Rattle.measuring.proofs.laws.Measure.{size_of, gate_size, size-nil, size-gate}
use Rattle.measuring.proofs.laws.Gates.{first_low, first_high, later_low, later_high}

-- the size of some gates
abbrev pub gates_size : List Gate → Size
gates_size gs = size_of (map gate gs)

-- gates one after the other
pub gates-append : (gs hs : List Gate) → gates_size (gs ++ hs) ≡ sum (gates_size gs) (gates_size hs)
gates-append [] hs = rw (size-nil, none-sum)
gates-append (g ∷ gs) hs = simp (size-gate, gates-append gs hs, sum-assoc)

-- where x is the literal, which is no constant
module _ (w x : ℕ) (hx : 2 ≤ x) where
  -- the cell of column i + 1 under no row
  first_cell : (i : ℕ) → gate_size (cell x (no_row (suc i)) (no_row (suc i - w))) ≡ variable_size 2 (3 + min 1 (w - i))
  first_cell i = go (suc i - w) refl
    where
      go : (d : ℕ) → suc i - w ≡ d → gate_size (cell x 0 (no_row d)) ≡ variable_size 2 (3 + min 1 (w - i))
      go zero e = first_low x hx ∙ equal (omega arith)
      go (suc d) e = first_high x hx ∙ equal (omega arith)

  -- k columns after the first i
  first_from : (i k : ℕ) → gates_size (row no_row w x (suc i) k) ≡ first_row k (w - i)
  unfolding row first_row none sum
  first_from i zero = rw size-nil (equal (omega arith))
  first_from i (suc k) = rw (size-gate, first_cell i, first_from (suc i) k) (equal (omega arith))

  -- the first row
  pub first-row : (cols : ℕ) → gates_size (row no_row w x 1 cols) ≡ first_row cols w
  first-row cols = rw (sub-zero w) at (first_from 0 cols)

  -- under the row from the variable v on
  module _ (v : ℕ) (hv : 1 ≤ v) where
    later_cell : (i : ℕ)
        → gate_size (cell x (row_at v (suc i)) (row_at v (suc i - w))) ≡ variable_size (3 + (1 - (w - i))) (7 + 4 * (1 - (w - i)))
    later_cell i = go (suc i - w) refl
      where
        a : 2 ≤ pos (v + i)
        a = omega arith

        go : (d : ℕ) → suc i - w ≡ d
            → gate_size (cell x (pos (v + i)) (row_at v d)) ≡ variable_size (3 + (1 - (w - i))) (7 + 4 * (1 - (w - i)))
        go zero e = later_low x hx (pos (v + i)) a ∙ equal (omega arith)
        go (suc d) e = later_high x hx (pos (v + i)) a (pos (v + d)) (omega arith) ∙ equal (omega arith)

    later_from : (i k : ℕ) → gates_size (row (row_at v) w x (suc i) k) ≡ later_row k (w - i)
    unfolding row later_row none sum
    later_from i zero = rw size-nil (equal (omega arith))
    later_from i (suc k) = rw (size-gate, later_cell i, later_from (suc i) k) (equal (omega arith))

    -- a later row
    pub later-row : (cols : ℕ) → gates_size (row (row_at v) w x 1 cols) ≡ later_row cols w
    later-row cols = rw (sub-zero w) at (later_from 0 cols)

-- literals with weights that are no constants, and their weights
abbrev pub Proper : List (ℕ × ℕ) → Type 0
Proper xs = All (λ x. 2 ≤ x.1) xs

abbrev pub weights : List (ℕ × ℕ) → List ℕ
weights xs = map (λ x. x.0) xs

-- the rows of literals with these weights, under a row
unfoldable pub later_rows : ℕ → List ℕ → Size
later_rows cols [] = none
later_rows cols (w ∷ ws) = sum (later_row cols w) (later_rows cols ws)

-- a counter over literals with these weights
unfoldable pub counter_size : ℕ → List ℕ → Size
counter_size cols [] = none
counter_size cols (w ∷ ws) = sum (first_row cols w) (later_rows cols ws)

module _ (cols : ℕ) where
  later_rows_lem : (xs : List (ℕ × ℕ)) (u v : ℕ) → 1 ≤ u → 1 ≤ v → Proper xs
      → gates_size (counter (row_at u) xs cols v) ≡ later_rows cols (weights xs)
  unfolding counter later_rows
  later_rows_lem [] u v hu hv p = size-nil
  later_rows_lem (x ∷ xs) u v hu hv p =
      let rest = later_rows_lem xs v (v + cols) hv (omega arith) p.1 in
      rw (gates-append, later-row x.0 x.1 p.0 u hu cols, rest)

  -- a counter
  pub counter-size : (xs : List (ℕ × ℕ)) (v : ℕ) → 1 ≤ v → Proper xs
      → gates_size (counter no_row xs cols v) ≡ counter_size cols (weights xs)
  unfolding counter counter_size
  counter-size [] v h p = size-nil
  counter-size (x ∷ xs) v h p =
      rw (gates-append, first-row x.0 x.1 p.0 cols, later_rows_lem xs v (v + cols) h (omega arith) p.1)

-- n rows of the weight w under a row, and a counter of them
pub later-equal : (cols n w : ℕ) → later_rows cols (replicate n w) ≡ multiple n (later_row cols w)
unfolding later_rows
later-equal cols zero w = sym (multiple-zero (later_row cols w))
later-equal cols (suc n) w = rw (later-equal cols n w, multiple-suc)

pub counter-equal : (cols n w : ℕ) → counter_size cols (replicate n w) ≡ equal_rows cols n w
unfolding counter_size equal_rows
counter-equal cols zero w = refl
counter-equal cols (suc n) w = rw (later-equal cols n w)
