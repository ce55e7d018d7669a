-- The words of a counter's cells: laws.
use mathlib.Core.Path.{◌≡◌, refl, ap, sym, ◌∙◌}
use mathlib.Core.Bool.{Bool, true, false, cond}
use mathlib.Core.List.{List, [], ◌∷◌, ◌++◌, map, flat_map, append-nil}
use Prim.Native.Nat.{ℕ, zero, suc, ◌+◌, ◌-◌, ◌*◌, ◌≤◌, ◌<◌}
use native.Mathlib.Nat.{zero-add, add-zero}
use native.Mathlib.Numerals.{add-one}
use native.Mathlib.Omega.{arith}
use lib.ListN.{length, take, drop, set, length-append}
use lib.Seq.{sets, sets-eq, take_at}
use borrow.Author.Tests.{ne_eqb}
use Rattle.scope.specs.Cnf.{pos, neg, opp, has_true, without_false, tidy, Gate, cell, gate, gate_clauses}
use Rattle.sink.specs.Run.{Ran, out, put}
use Rattle.sink.proofs.laws.Run.{ran-sets}
use Rattle.sink.specs.Lines.{Line, clause_line, lines}
use Rattle.sink.specs.World.{World, row_over}
use Rattle.sink.specs.Block.{mark, split, Marks}
use Rattle.sink.proofs.laws.Block.{mark-split, marks}
use Rattle.row_words.specs.Literals.{Literal}
use Rattle.row_words.proofs.laws.Literals.{Variable}
use Rattle.row_words.specs.Cells.{cell_at, StoredAt, WordsAt, full_clauses, low_clauses}

-- tidying a clause, literal by literal
pub tidy-literal : (l : ℕ) (ls : List ℕ) → 2 ≤ l → tidy (l ∷ ls) ≡ map (◌∷◌ l) (tidy ls)
unfolding tidy has_true without_false
tidy-literal l ls h = rw (ne_eqb l 1 (λ e. omega arith), ne_eqb l 0 (λ e. omega arith)) (go (has_true ls))
  where
    go : (t : Bool) → cond t [] ((l ∷ without_false ls) ∷ []) ≡ map (◌∷◌ l) (cond t [] (without_false ls ∷ []))
    go true = refl
    go false = refl

pub tidy-false : (ls : List ℕ) → tidy (0 ∷ ls) ≡ tidy ls
unfolding tidy has_true without_false
tidy-false ls = refl

pub tidy-true : (ls : List ℕ) → tidy (1 ∷ ls) ≡ []
unfolding tidy has_true
tidy-true ls = refl

pub tidy-nil : tidy [] ≡ [] ∷ []
unfolding tidy has_true without_false
tidy-nil = refl

-- a cell over a row of literals
pub cell-both : (x a b o : ℕ) → 2 ≤ x → 2 ≤ a → 2 ≤ b → 1 ≤ o
    → gate_clauses (cell x a b) o
    ≡ (opp a ∷ pos o ∷ []) ∷ (opp x ∷ opp b ∷ pos o ∷ []) ∷ (x ∷ a ∷ neg o ∷ []) ∷ (b ∷ a ∷ neg o ∷ []) ∷ []
unfolding gate_clauses
cell-both x a b o hx ha hb ho =
    let na : 2 ≤ opp a = omega arith in
    let nx : 2 ≤ opp x = omega arith in
    let nb : 2 ≤ opp b = omega arith in
    let p : 2 ≤ pos o = omega arith in
    let n : 2 ≤ neg o = omega arith in
    simp (tidy-literal, tidy-nil)

-- a cell over a row of literals, where the weight reaches the column
pub cell-least : (x a o : ℕ) → 2 ≤ x → 2 ≤ a → 1 ≤ o
    → gate_clauses (cell x a 1) o ≡ (opp a ∷ pos o ∷ []) ∷ (opp x ∷ pos o ∷ []) ∷ (x ∷ a ∷ neg o ∷ []) ∷ []
unfolding gate_clauses
cell-least x a o hx ha ho =
    let na : 2 ≤ opp a = omega arith in
    let nx : 2 ≤ opp x = omega arith in
    let p : 2 ≤ pos o = omega arith in
    let n : 2 ≤ neg o = omega arith in
    simp (tidy-literal, tidy-false, tidy-true, tidy-nil)

-- a cell in the first row, where the weight reaches the column
pub cell-start : (x o : ℕ) → 2 ≤ x → 1 ≤ o → gate_clauses (cell x 0 1) o ≡ (opp x ∷ pos o ∷ []) ∷ (x ∷ neg o ∷ []) ∷ []
unfolding gate_clauses
cell-start x o hx ho =
    let nx : 2 ≤ opp x = omega arith in
    let p : 2 ≤ pos o = omega arith in
    let n : 2 ≤ neg o = omega arith in
    simp (tidy-literal, tidy-false, tidy-true, tidy-nil)

-- a cell in the first row, where it does not
pub cell-none : (x o : ℕ) → 2 ≤ x → 1 ≤ o → gate_clauses (cell x 0 0) o ≡ (x ∷ neg o ∷ []) ∷ (neg o ∷ []) ∷ []
unfolding gate_clauses
cell-none x o hx ho =
    let nx : 2 ≤ opp x = omega arith in
    let n : 2 ≤ neg o = omega arith in
    simp (tidy-literal, tidy-false, tidy-true, tidy-nil)

-- the literals of a cell by its row and column, where column j of the code is column j + 1 of the counter
pub over_none : (prev j w : ℕ) → prev ≡ 0 → w ≤ j → (row_over prev (suc j) ≡ 0) × (row_over prev (suc j - w) ≡ 0)
over_none prev j w e h = let d : suc j - w ≡ suc (j - w) = omega arith in rw (e, d) (refl, refl)

pub over-start : (prev j w : ℕ) → prev ≡ 0 → j < w → (row_over prev (suc j) ≡ 0) × (row_over prev (suc j - w) ≡ 1)
over-start prev j w e h = let d : suc j - w ≡ 0 = omega arith in rw (e, d) (refl, refl)

pub over-least : (prev j w : ℕ) → (prev ≡ 0 → ⊥) → j < w → (row_over prev (suc j) ≡ 2 * (prev + j)) × (row_over prev (suc j - w) ≡ 1)
over-least zero j w z h = absurd (z refl)
over-least (suc v) j w z h = let d : suc j - w ≡ 0 = omega arith in rw d (refl, refl)

pub over-both : (prev j w : ℕ) → (prev ≡ 0 → ⊥) → w ≤ j
    → (row_over prev (suc j) ≡ 2 * (prev + j)) × (row_over prev (suc j - w) ≡ 2 * (prev + (j - w)))
over-both zero j w z h = absurd (z refl)
over-both (suc v) j w z h = let d : suc j - w ≡ suc (j - w) = omega arith in rw d (refl, refl)

-- the opposite of a positive literal
opp-pos : (v : ℕ) → opp (2 * v) ≡ 2 * v + 1
opp-pos v = omega arith

module _ {x w prev o j : ℕ} (lx : Literal x) (lo : Variable o) {nx : ℕ} (ex : nx ≡ opp x) where
  pub start_block : prev ≡ 0 → j < w → Marks (nx ∷ (2 * o + 2147483648) ∷ x ∷ (2 * o + 1 + 2147483648) ∷ []) (gate_clauses (cell_at x w prev j) o)
  unfolding mark flat_map
  start_block e h =
      let v = over-start prev j w e h in
      rw (v.0, v.1, cell-start x o lx.some lo.some, ex)
      (marks ((opp x ∷ pos o ∷ []) ∷ (x ∷ neg o ∷ []) ∷ []) (omega (arith, lx, lo)))

  pub none_block : prev ≡ 0 → w ≤ j → Marks (x ∷ (2 * o + 1 + 2147483648) ∷ (2 * o + 1 + 2147483648) ∷ []) (gate_clauses (cell_at x w prev j) o)
  unfolding mark flat_map
  none_block e h =
      let v = over_none prev j w e h in
      rw (v.0, v.1, cell-none x o lx.some lo.some)
      (marks ((x ∷ neg o ∷ []) ∷ (neg o ∷ []) ∷ []) (omega (arith, lx, lo)))

  pub least_block : (prev ≡ 0 → ⊥) → prev + j < 1073741824 → j < w
      → Marks ((2 * (prev + j) + 1) ∷ (2 * o + 2147483648) ∷ nx ∷ (2 * o + 2147483648) ∷ x ∷ (2 * (prev + j)) ∷ (2 * o + 1 + 2147483648) ∷ [])
      (gate_clauses (cell_at x w prev j) o)
  unfolding mark flat_map
  least_block z s h =
      let v = over-least prev j w z h in
      let a : ℕ = prev + j in
      rw (v.0, v.1, cell-least x (2 * a) o lx.some (omega (arith, z)) lo.some, ex, opp-pos a)
      (marks (((2 * a + 1) ∷ pos o ∷ []) ∷ (opp x ∷ pos o ∷ []) ∷ (x ∷ 2 * a ∷ neg o ∷ []) ∷ []) (omega (arith, lx, lo)))

  pub both_block : (prev ≡ 0 → ⊥) → prev + j < 1073741824 → w ≤ j
      → Marks ((2 * (prev + j) + 1) ∷ (2 * o + 2147483648) ∷ nx ∷ (2 * (prev + (j - w)) + 1) ∷ (2 * o + 2147483648)
      ∷ x ∷ (2 * (prev + j)) ∷ (2 * o + 1 + 2147483648) ∷ (2 * (prev + (j - w))) ∷ (2 * (prev + j)) ∷ (2 * o + 1 + 2147483648) ∷ [])
      (gate_clauses (cell_at x w prev j) o)
  unfolding mark flat_map
  both_block z s h =
      let v = over-both prev j w z h in
      let a : ℕ = prev + j in
      let b : ℕ = prev + (j - w) in
      rw (v.0, v.1, cell-both x (2 * a) (2 * b) o lx.some (omega (arith, z)) (omega (arith, z)) lo.some, ex, opp-pos a, opp-pos b)
      (marks (((2 * a + 1) ∷ pos o ∷ []) ∷ (opp x ∷ (2 * b + 1) ∷ pos o ∷ []) ∷ (x ∷ 2 * a ∷ neg o ∷ []) ∷ (2 * b ∷ 2 * a ∷ neg o ∷ []) ∷ []) (omega (arith, lx, lo)))

sets-append : (xs ys l : List ℕ) (a : ℕ) → sets (sets l a xs) (a + length xs) ys ≡ sets l a (xs ++ ys)
sets-append [] ys l a = rw add-zero
sets-append (x ∷ xs) ys l a =
    let e : a + suc (length xs) ≡ suc a + length xs = omega arith in rw e (sets-append xs ys (set l a x) (suc a))

-- two or three words, as the code numbers their places
pub two-words : (l : List ℕ) (at a b : ℕ) → WordsAt at (at + 2) l (set (set l at a) (at + 1) b) (a ∷ b ∷ [])
two-words l at a b = record { stored = rw add-one; end = refl }

pub three-words : (l : List ℕ) (at a b c : ℕ) → WordsAt at (at + 3) l (set (set (set l at a) (at + 1) b) (at + 2) c) (a ∷ b ∷ c ∷ [])
three-words l at a b c =
    let e : at + 2 ≡ suc (suc at) = omega arith in record { stored = rw (add-one, e); end = refl }

pub words-then : {a p n : ℕ} {l m k xs ys : List ℕ} → WordsAt a p l m xs → WordsAt p n m k ys → WordsAt a n l k (xs ++ ys)
words-then {a} {l = l} {xs = xs} {ys = ys} s t =
    record { stored = t.stored ∙ rw (s.end, s.stored) (sets-append xs ys l a); end = omega (arith, s.end, t.end, length-append xs ys) }

pub stored : {a n : ℕ} {l l' block : List ℕ} {cs : List (List ℕ)} → WordsAt a n l l' block → Marks block cs → length block ≤ 11
    → StoredAt a n l l' cs
stored {block = block} w m h = record { block = block; marked = m; few = h; stored = w.stored; end = w.end }

-- a block at the start of a list
pub stored-first : {n : ℕ} {l l' : List ℕ} {cs : List (List ℕ)} → StoredAt 0 n l l' cs → 11 ≤ length l → Marks (take n l') cs
stored-first {n} {l} s h =
    let b : List ℕ = s.block in
    let e : sets l 0 b ≡ b ++ drop (0 + length b) l = sets-eq b l 0 (omega (arith, s.few)) in
    let k : n ≡ length b = s.end ∙ zero-add (length b) in
    rw (s.stored, e, take_at b (drop (0 + length b) l) n (sym k)) s.marked

-- a stored block is a run of stores
pub stored-ran : {a n : ℕ} {l l' : List ℕ} {cs : List (List ℕ)} → StoredAt a n l l' cs → a + 11 ≤ 9223372036854775807
    → Ran put (flat_map mark cs) (out a l) (out n l')
stored-ran {a} {n} {l} {cs = cs} s h =
    let e : flat_map mark cs ≡ s.block = ap (flat_map mark) (sym s.marked.clauses) ∙ mark-split s.block s.marked.whole in
    rw (e, s.stored) (ran-sets s.block l a n (omega (arith, s.few)) s.end)

-- a run over a block's clauses is the run over the lines of their gate
pub gate-ran : {f : Line → World → World} (g : Gate) (o : ℕ) {b : List ℕ} {w w' : World} → Marks b (gate_clauses g o)
    → Ran f (map clause_line (split b)) w w' → Ran f (lines o (gate g ∷ [])) w w'
unfolding lines
gate-ran g o h r = rw (append-nil (map clause_line (gate_clauses g o)), ← h.clauses) r

pub full-cell : (x prev j o w : ℕ) → 2 ≤ x → 1 ≤ prev → 1 ≤ o → w ≤ j → gate_clauses (cell_at x w prev j) o ≡ full_clauses x (prev + j) (prev + (j - w)) o
full-cell x prev j o w lx p lo h =
    let v = over-both prev j w (λ e. omega arith) h in
    rw (v.0, v.1, cell-both x (2 * (prev + j)) (2 * (prev + (j - w))) o lx (omega arith) (omega arith) lo, opp-pos (prev + j), opp-pos (prev + (j - w)))

pub low-cell : (x prev j o w : ℕ) → 2 ≤ x → 1 ≤ prev → 1 ≤ o → j < w → gate_clauses (cell_at x w prev j) o ≡ low_clauses x (prev + j) o
low-cell x prev j o w lx p lo h =
    let v = over-least prev j w (λ e. omega arith) h in
    rw (v.0, v.1, cell-least x (2 * (prev + j)) o lx (omega arith) lo, opp-pos (prev + j))
