-- Cells whose variables have their gates' values in a model: all their clauses are true: laws.
use mathlib.Core.Path.{◌≡◌, refl, sym, ◌∙◌}
use mathlib.Core.Bool.{Bool, true, false, not, cond, beq}
use mathlib.Core.List.{List, ◌++◌, map}
use Prim.Native.Nat.{ℕ, zero, suc, ◌+◌, ◌-◌, ◌*◌, ◌≤◌, ◌<◌, min}
use native.Mathlib.Nat.{add-zero}
use native.Mathlib.Omega.{arith}
use lib.ListN.{length, length-append}
use lib.Dec.{leb, ltb}
use borrow.Author.Tests.{leb-true, leb-false, ltb-true, ltb-false}
use Rattle.laws.specs.Booleans.{beq-iff, never_true}
use Rattle.scope.specs.Cnf.{Assignment, bit, lit, gate, gate_clauses, clauses, hard_clauses}
use Rattle.theory.proofs.laws.Outputs.{value}
use Rattle.scope.specs.Formula.{row}
use Rattle.theory.proofs.laws.Gates.{gate_holds, lit_pos, clauses_append}
use Rattle.sink.specs.Run.{Ran}
use Rattle.sink.specs.Lines.{lines, gates_clauses}
use Rattle.sink.proofs.laws.Lines.{lines-gates}
use Rattle.sink.specs.World.{world, sink_at, step, row_over}
use Rattle.sink.specs.AllTrue.{evaluating, counted}
use Rattle.sink.proofs.laws.AllTrue.{true-ran}
use Rattle.sink.specs.declared.Sink.{Sink}
use Rattle.sink.specs.declared.Job.{Job}
use Rattle.row_words.specs.Literals.{Literal}
use Rattle.row_words.specs.Cells.{cell_at}
use Rattle.row_words.proofs.laws.Cells.{cell-both, cell-least, cell-start, cell-none, over-both, over-least, over-start, over_none}
use Rattle.row_value.specs.Evaluate.{row_count, right_with, right_at, Right}

-- how many clauses the cell in column j has, over the row at prev
abbrev pub cell_count : ℕ → ℕ → ℕ → ℕ
cell_count w zero j = 2
cell_count w (suc v) j = cond (leb w j) 4 3

cell-count : (x w prev o j : ℕ) → 2 ≤ x → 1 ≤ o → length (gate_clauses (cell_at x w prev j) o) ≡ cell_count w prev j
cell-count x w prev o j lx lo = go prev (leb w j) refl
  where
    go : (p : ℕ) (b : Bool) → leb w j ≡ b → length (gate_clauses (cell_at x w p j) o) ≡ cell_count w p j
    go zero true e =
        let v = over_none 0 j w refl (leb-true w j e) in rw (v.0, v.1, cell-none x o lx lo)
    go zero false e =
        let v = over-start 0 j w refl (leb-false w j e) in rw (v.0, v.1, cell-start x o lx lo)
    go (suc p) true e =
        let v = over-both (suc p) j w (λ z. omega arith) (leb-true w j e) in
        rw (v.0, v.1, cell-both x (2 * (suc p + j)) (2 * (suc p + (j - w))) o lx (omega arith) (omega arith) lo, e)
    go (suc p) false e =
        let v = over-least (suc p) j w (λ z. omega arith) (leb-false w j e) in
        rw (v.0, v.1, cell-least x (2 * (suc p + j)) o lx (omega arith) lo, e)

-- how many clauses k cells from column j on have
abbrev count_from : ℕ → ℕ → ℕ → ℕ → ℕ
count_from w prev j zero = 0
count_from w prev j (suc k) = cell_count w prev j + count_from w prev (suc j) k

pub row_first : (w prev cols : ℕ) → prev ≡ 0 → 2 * cols ≡ row_count w prev cols
row_first w prev cols e = rw e

pub row-later : (w prev cols : ℕ) {n : ℕ} → (prev ≡ 0 → ⊥) → n ≡ min w cols → 4 * cols - n ≡ row_count w prev cols
row-later w zero cols z e = absurd (z refl)
row-later w (suc v) cols z e = rw e

first_count : (w j k : ℕ) → count_from w 0 j k ≡ 2 * k
first_count w j zero = refl
first_count w j (suc k) = rw (first_count w (suc j) k) (omega arith)

later-count : (w v j k : ℕ) → count_from w (suc v) j k + min w (j + k) ≡ 4 * k + min w j
later-count w v j zero = omega arith
later-count w v j (suc k) = go (leb w j) refl (later-count w v (suc j) k)
  where
    go : (b : Bool) → leb w j ≡ b → count_from w (suc v) (suc j) k + min w (suc j + k) ≡ 4 * k + min w (suc j)
        → cond (leb w j) 4 3 + count_from w (suc v) (suc j) k + min w (j + suc k) ≡ 4 * suc k + min w j
    go true e ih = let h = leb-true w j e in rw e (omega arith)
    go false e ih = let h = leb-false w j e in rw e (omega arith)

row_count_lem : (w prev cols : ℕ) → count_from w prev 0 cols ≡ row_count w prev cols
row_count_lem w zero cols = first_count w 0 cols
row_count_lem w (suc v) cols = omega (arith, later-count w v 0 cols)

pub not-false : (b : Bool) → not b ≡ false → b ≡ true
not-false true e = refl
not-false false e = never_true (sym e)

-- a truth compared with true
pub beq-true : (b : Bool) → b ≡ beq true b
beq-true true = refl
beq-true false = refl

-- there is no variable 0
pub no-variable : (m : List ℕ) → bit m 0 ≡ false
unfolding bit
no-variable m = refl

-- the literals of the row above, by column
pub column-none : (m : List ℕ) (prev j : ℕ) → prev ≡ 0 → false ≡ lit (bit m) (row_over prev (suc j))
unfolding lit bit
column-none m prev j e = rw e

pub column-some : (m : List ℕ) (prev j : ℕ) → (prev ≡ 0 → ⊥) → bit m (prev + j) ≡ lit (bit m) (row_over prev (suc j))
column-some m zero j z = absurd (z refl)
column-some m (suc v) j z = rw lit_pos

pub column-reached : (m : List ℕ) (w prev j : ℕ) → j < w → true ≡ lit (bit m) (row_over prev (suc j - w))
unfolding lit bit
column-reached m w zero j h = let e : suc j - w ≡ 0 = omega arith in rw e
column-reached m w (suc v) j h = let e : suc j - w ≡ 0 = omega arith in rw e

pub column-carried : (w j : ℕ) → w ≤ j → suc (j - w) ≡ suc j - w
column-carried w j h = omega arith

gate-right : (m : List ℕ) (x w prev first j : ℕ) → right_at (bit m) x w prev first j ≡ true → clauses (bit m) (gate_clauses (cell_at x w prev j) (first + j)) ≡ true
unfolding value
gate-right m x w prev first j h = (gate_holds (bit m) (no-variable m) (cell_at x w prev j) (first + j)).1 ((beq-iff _ _).0 h)

pub right-none : {ν : Assignment} {x w prev first : ℕ} → Right ν x w prev first 0
right-none = record { each = λ j h. absurd (omega arith) }

pub right-more : (ν : Assignment) (x w prev first n : ℕ) {t : Bool} → t ≡ lit ν x → Right ν x w prev first n → right_with ν t w prev first n ≡ true
    → Right ν x w prev first (n + 1)
right-more ν x w prev first n q r e = record { each = λ j h. go j (ltb j n) refl h }
  where
    go : (j : ℕ) (b : Bool) → ltb j n ≡ b → j < n + 1 → right_at ν x w prev first j ≡ true
    go j true t h = r.each j (ltb-true j n t)
    go j false t h = let i : j ≡ n = omega (arith, ltb-false j n t) in rw (i, ← q) e

pub right-all : {ν : Assignment} {x w prev first : ℕ} (n : ℕ) {cols : ℕ} → Right ν x w prev first n → cols ≤ n → Right ν x w prev first cols
right-all n r h = record { each = λ j g. r.each j (omega arith) }

module _ (m : List ℕ) (x w prev first : ℕ) (lx : Literal x) (s : 1 ≤ first) where
  abbrev cells_from : ℕ → ℕ → List (List ℕ)
  cells_from j k = gates_clauses (first + j) (row (row_over prev) w x (suc j) k)

  next_cell : (j k : ℕ) → cells_from j (suc k) ≡ gate_clauses (cell_at x w prev j) (first + j) ++ cells_from (suc j) k
  unfolding gates_clauses hard_clauses row
  next_cell j k = let e : first + suc j ≡ suc (first + j) = omega arith in rw e

  cells_true : (j k : ℕ) → ((i : ℕ) → i < j + k → right_at (bit m) x w prev first i ≡ true) → clauses (bit m) (cells_from j k) ≡ true
  unfolding gates_clauses hard_clauses row clauses
  cells_true j zero h = refl
  cells_true j (suc k) h =
      rw (next_cell j k, clauses_append, gate-right m x w prev first j (h j (omega arith)), cells_true (suc j) k (λ i g. h i (omega arith)))

  cells_count : (j k : ℕ) → length (cells_from j k) ≡ count_from w prev j k
  unfolding gates_clauses hard_clauses row
  cells_count j zero = refl
  cells_count j (suc k) =
      rw (next_cell j k, length-append, cell-count x w prev (first + j) j lx.some (omega arith), cells_count (suc j) k)

-- a run over the lines of such a row in the mode Evaluate
pub row-passed : (k : Job) (m : List ℕ) (x w prev first cols : ℕ) {n : ℕ} {s s' : Sink} {t v : List ℕ} → Literal x → 1 ≤ first → evaluating k.mode ≡ true
    → Right (bit m) x w prev first cols → n ≡ row_count w prev cols → s' ≡ sink_at (counted n s.at) s
    → Ran (step k m) (lines first (map gate (row (row_over prev) w x 1 cols))) (world s t v) (world s' t v)
row-passed k m x w prev first cols {n} lx p e r c q =
    let l : length (gates_clauses first (row (row_over prev) w x 1 cols)) ≡ n = rw add-zero at (cells_count m x w prev first lx p 0 cols) ∙ row_count_lem w prev cols ∙ sym c in
    let h : clauses (bit m) (gates_clauses first (row (row_over prev) w x 1 cols)) ≡ true = rw add-zero at (cells_true m x w prev first lx p 0 cols (λ i g. r.each i (omega arith))) in
    rw (lines-gates first (row (row_over prev) w x 1 cols)) (true-ran k m (gates_clauses first (row (row_over prev) w x 1 cols)) e h (rw l q))
