-- What a run in the mode Tail comes to: the clauses of the tail's counter, as words: laws.
use mathlib.Core.Path.{◌≡◌, refl, ap, ◌∙◌, sym}
use mathlib.Core.List.{List, [], ◌∷◌, ◌++◌, flat_map}
use Prim.Native.Nat.{ℕ, zero, suc, ◌+◌, ◌*◌, ◌≤◌, ◌<◌}
use native.Mathlib.Omega.{arith}
use lib.ListN.{length}
use borrow.Author.Tests.{le-leb}
use Rattle.scope.specs.Cnf.{opp, Gate, Item, hard_clauses, soft_units}
use Rattle.scope.specs.Formula.{row_at, row, counter, last_row, negated}
use Rattle.sink.specs.Run.{run, run_append, Out, out, put}
use Rattle.sink.specs.Lines.{Line, clause_line, soft_line, lines, gates_clauses}
use Rattle.sink.proofs.laws.Lines.{softs_of, softs-lines, gates-append, flat_append}
use Rattle.sink.specs.Block.{mark}
use Rattle.sink.specs.World.{World, in_words, put_words, row_over, row_clauses, next_row, tail_row, step}
use Rattle.sink.specs.declared.Job.{Job}
use Rattle.sink.specs.declared.Mode.TheVariants.{Tail}
use Rattle.sink.specs.Tails.{tail_words, last_first}

-- a row has a gate for each column
pub row_length : (p : ℕ → ℕ) (w x j k : ℕ) → length (row p w x j k) ≡ k
unfolding row
row_length p w x j zero = refl
row_length p w x j (suc k) = ap suc (row_length p w x (suc j) k)

pub last-at : (cols prev v n : ℕ) → last_first cols prev v (suc n) ≡ v + n * cols
unfolding last_first
last-at cols prev v zero = omega arith
last-at cols prev v (suc n) = last-at cols v (v + cols) n ∙ omega arith

-- a first variable above 0 has its row
pub row-over : (v : ℕ) → 0 < v → row_over v ≡ row_at v
row-over zero h = absurd (omega arith)
row-over (suc v) h = refl

-- a counter's last row
pub last_row_lem : (cols prev v : ℕ) (xs : List (ℕ × ℕ)) → 0 < v → last_row (row_over prev) xs cols v ≡ row_over (last_first cols prev v (length xs))
unfolding last_first last_row
last_row_lem cols prev v [] h = refl
last_row_lem cols prev v (x ∷ xs) h =
    ap (λ (p : ℕ → ℕ). last_row p xs cols (v + cols)) (sym (row-over v h)) ∙ last_row_lem cols v (v + cols) xs (omega arith)

-- the words of one row and then of the others
words_step : (cols prev v : ℕ) (u : ℕ × ℕ) (us : List (ℕ × ℕ)) → 0 < v
    → tail_words cols prev v (u ∷ us) ≡ flat_map mark (row_clauses cols prev v u.0 u.1) ++ tail_words cols v (v + cols) us
unfolding counter row_clauses
words_step cols prev v u us h =
    let one : List Gate = row (row_over prev) u.0 (opp u.1) 1 cols in
    let more : List Gate = counter (row_at v) (negated us) cols (v + cols) in
    rw (row-over v h)
    (ap (flat_map mark) (gates-append v one more ∙ ap (λ (n : ℕ). gates_clauses v one ++ gates_clauses (v + n) more) (row_length (row_over prev) u.0 (opp u.1) 1 cols))
    ∙ flat_append mark (gates_clauses v one) (gates_clauses (v + cols) more))

words-none : (cols prev v : ℕ) → tail_words cols prev v [] ≡ []
unfolding counter gates_clauses hard_clauses flat_map
words-none cols prev v = refl

pub row_fits : (cols n l : ℕ) (w : World) → 1 ≤ w.row → w.prev + cols ≤ 1073741824 → w.row + cols ≤ 1073741824
    → tail_row cols n l w ≡ next_row cols (put_words (flat_map mark (row_clauses cols w.prev w.row n l)) w)
unfolding tail_row
row_fits cols n l w s h g = rw (le-leb 1 w.row s, le-leb (w.prev + cols) 1073741824 h, le-leb (w.row + cols) 1073741824 g)

-- the world with other rows
abbrev pub rowed : ℕ → ℕ → World → World
rowed p v w = record { at = w.at; text = w.text; words = w.words; bad = w.bad; lost = w.lost; prev = p; row = v }

module _ (k : Job) (m : List ℕ) where
  -- Tail: the counter's clauses are put into the words, where all its variables are at most 2 ^ 30
  pub tail_run : k.mode ≡ Tail → (ls : List Line) (w : World) → 0 < w.row → w.prev ≤ w.row
      → w.row + length (softs_of ls) * k.cols ≤ 1073741824
      → run (step k m) ls w
      ≡ rowed (last_first k.cols w.prev w.row (length (softs_of ls))) (w.row + length (softs_of ls) * k.cols)
      (put_words (tail_words k.cols w.prev w.row (softs_of ls)) w)
  unfolding step softs_of last_first
  tail_run e [] w h g f =
      let n : w.row + 0 * k.cols ≡ w.row = omega arith in rw (n, words-none k.cols w.prev w.row)
  tail_run e (clause_line c ∷ ls) w h g f =
      let one : step k m (clause_line c) w ≡ w = rw e in ap (run (step k m) ls) one ∙ tail_run e ls w h g f
  tail_run e (soft_line n l ∷ ls) w h g f =
      let cols : ℕ = k.cols in
      let us : List (ℕ × ℕ) = softs_of ls in
      let one : step k m (soft_line n l) w ≡ tail_row cols n l w = rw e in
      let wrote : List ℕ = flat_map mark (row_clauses cols w.prev w.row n l) in
      let after : World = next_row cols (put_words wrote w) in
      let rest : List ℕ = tail_words cols w.row (w.row + cols) us in
      let v : w.row + cols + length us * cols ≡ w.row + suc (length us) * cols = omega arith in
      ap (run (step k m) ls) (one ∙ row_fits cols n l w h (omega arith) (omega arith))
      ∙ tail_run e ls after (omega arith) (omega arith) (omega arith)
      ∙ rw (v, words_step cols w.prev w.row (n, l) us h)
      (ap (λ (o : Out). rowed (last_first cols w.row (w.row + cols) (length us)) (w.row + suc (length us) * cols) (in_words o w))
      (sym (run_append put wrote rest (out w.at w.words))))

  pub tail_lines : k.mode ≡ Tail → (n : ℕ) (is : List Item) (w : World) → 0 < w.row → w.prev ≤ w.row
      → w.row + length (soft_units is) * k.cols ≤ 1073741824
      → run (step k m) (lines n is) w
      ≡ rowed (last_first k.cols w.prev w.row (length (soft_units is))) (w.row + length (soft_units is) * k.cols)
      (put_words (tail_words k.cols w.prev w.row (soft_units is)) w)
  tail_lines e n is w h g f = rw (← softs-lines n is) (tail_run e (lines n is) w h g (rw (softs-lines n is) f))
